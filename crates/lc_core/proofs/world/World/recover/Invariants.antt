use Rattle.lc_core.specs.ComingUp.{steps_left}
use Rattle.lc_core.proofs.ComingUp.{HasStepped}
use Rattle.lc_core.proofs.world.World.recover.Given as goal

abbrev pub invariant-steps : goal.invariant-steps
invariant-steps g l = HasStepped g.D.Area l.fn.self l.self

abbrev pub decreases-steps : goal.decreases-steps
decreases-steps g l = steps_left g.D.Area l.self.phase
