use Rattle.std.proofs.Common.{take}
use Rattle.std.specs.Io.KnownBytes.{Appends}
use Rattle.lc_look.specs.Picture.{records_in_bar}
use Rattle.lc_look.proofs.log_bar.write_records_in_bar.Given as goal

abbrev pub invariant-loop-place : goal.invariant-loop-place
invariant-loop-place g l = Appends (g.W.Write.contents l.fn.writer) (g.W.Write.contents l.writer) (records_in_bar l.lanes (take l.place-index l.records))
