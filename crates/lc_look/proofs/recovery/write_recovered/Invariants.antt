use Rattle.std.proofs.Common.{◌-◌}
use Rattle.std.specs.Io.KnownBytes.{Appends}
use Rattle.lc_recover.specs.Recovered.{sequence_of}
use Rattle.lc_look.proofs.AreasRecovered.{first_segments}
use Rattle.lc_look.proofs.recovery.write_recovered.Given as goal

abbrev pub invariant-loop-segment : goal.invariant-loop-segment
invariant-loop-segment g l = Appends (g.W.Write.contents l.fn.writer) (g.W.Write.contents l.writer) (first_segments (sequence_of l.store) (l.segment - 1))
