use Rattle.std.proofs.Common.{◌≡◌}
use Rattle.lc_core.specs.Geometries.{phase_geometry}
use Rattle.lc_tool.proofs.Recovering.{HasGone}
use Rattle.lc_tool.proofs.repeating.recover.Given as goal

abbrev pub invariant-loop : goal.invariant-loop
invariant-loop g l = record {
  gone : HasGone g.D.Area l.fn.world l.world l.counter;
  geometry : phase_geometry g.D.Area l.world.phase ≡ phase_geometry g.D.Area l.fn.world.phase;
}
