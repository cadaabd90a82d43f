use Rattle.std.proofs.Common.{take}
use Rattle.std.specs.Io.KnownBytes.{Appends}
use Rattle.lc_look.specs.Picture.{bars_text}
use Rattle.lc_look.proofs.store_picture.write_bars.Given as goal

abbrev pub invariant-loop-bar : goal.invariant-loop-bar
invariant-loop-bar g l = Appends (g.W.Write.contents l.fn.writer) (g.W.Write.contents l.writer) (bars_text l.geometry (take l.bar-index l.bars))
