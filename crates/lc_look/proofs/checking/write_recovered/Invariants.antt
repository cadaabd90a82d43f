use Rattle.std.proofs.Common.{◌-◌}
use Rattle.std.specs.Io.KnownBytes.{Appends}
use Rattle.lc_recover.specs.Forecast.{sequence_of}
use Rattle.lc_look.proofs.AreasRecovered.{first_segments}
use Rattle.lc_look.proofs.checking.write_recovered.Given as goal

abbrev pub invariant-loop-segment : goal.invariant-loop-segment
invariant-loop-segment g l = Appends (g.W.Write.contents l.fn.writer) (g.W.Write.contents l.writer) (first_segments (sequence_of l.forecast) (l.segment - 1))
