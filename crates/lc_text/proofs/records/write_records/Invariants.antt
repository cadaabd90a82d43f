use Rattle.std.proofs.Common.{take}
use Rattle.std.specs.Io.KnownBytes.{Appends}
use Rattle.lc_text.specs.Text.{records_text}
use Rattle.lc_text.proofs.records.write_records.Given as goal

abbrev pub invariant-loop-place : goal.invariant-loop-place
invariant-loop-place g l = Appends (g.W.Write.contents l.fn.writer) (g.W.Write.contents l.writer) (records_text (take l.place-index l.records))
