use Rattle.std.proofs.Common.{take}
use Rattle.std.specs.Io.KnownBytes.{Appends}
use Rattle.lc_look.specs.Picture.{lanes_text}
use Rattle.lc_look.proofs.log_bar.write_lanes.Given as goal

abbrev pub invariant-loop-lock : goal.invariant-loop-lock
invariant-loop-lock g l = Appends (g.W.Write.contents l.fn.writer) (g.W.Write.contents l.writer) (lanes_text l.place l.words (take l.lock-index l.locks))
