use Rattle.std.proofs.Common.{◌-◌, ◌*◌}
use Rattle.lc_recover.specs.Recovery.{all_steps}
use Rattle.lc_look.proofs.AreasRecovered.{Goes}
use Rattle.lc_look.proofs.recovery.recovered.Given as goal

abbrev pub invariant-loop-recovery : goal.invariant-loop-recovery
invariant-loop-recovery g l = Goes g.D.Area l.fn.geometry l.fn.areas.items l.recovery

abbrev pub decreases-loop-recovery : goal.decreases-loop-recovery
decreases-loop-recovery g l = all_steps l.recovery.geometry (l.recovery.geometry.segments * l.recovery.geometry.pages) - l.recovery.steps
