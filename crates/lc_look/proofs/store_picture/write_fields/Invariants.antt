use Rattle.std.proofs.Common.{take}
use Rattle.std.specs.Io.KnownBytes.{Appends}
use Rattle.lc_look.specs.Picture.{fields_text}
use Rattle.lc_look.proofs.store_picture.write_fields.Given as goal

abbrev pub invariant-loop-field : goal.invariant-loop-field
invariant-loop-field g l = Appends (g.W.Write.contents l.fn.writer) (g.W.Write.contents l.writer) (fields_text l.height (take l.field-index l.fields))
