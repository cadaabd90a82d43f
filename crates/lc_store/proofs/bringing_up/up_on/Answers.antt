use Rattle.std.proofs.Common.{subst}
use Rattle.lc_core.specs.ComingUp.{ComesUpBy}
use Rattle.lc_store.proofs.bringing_up.up_on.Goals as goal

pub returns-in-Err-recover-clause-opens : goal.returns-in-Err-recover-clause-opens
returns-in-Err-recover-clause-opens g c = (
  c.recover.new.self,
  record {
    down = c.in-Ok.world;
    was_down = c.in-Ok.ensures.down;
    comes = subst (λ r. ComesUpBy g.D.Area c.in-Ok.world r c.recover.new.self) c.in-Err-recover.is c.recover.ensures.steps;
  },
)
