use Rattle.std.proofs.Common.{sym, subst, refl}
use Rattle.std.proofs.lemmas.Bool.{true≢false}
use Rattle.lc_recover.proofs.Going.{over-done, not_over-done, not_done}
use Rattle.lc_recover.specs.Recovery.{Recovering, IsDone}
use Rattle.lc_recover.specs.Steps.{IsOver}
use Rattle.lc_recover.specs.declared.recovery_phase.RecoveryPhase.{RecoveryPhase}
use Rattle.lc_recover.proofs.recovery.Recovery.is_done.Goals as goal

pub returns-in-Done : goal.returns-in-Done
returns-in-Done g c = (
  λ yes. subst (λ (r : Recovering g.row.D.Denot). IsDone r) c.self.view_is
      (over-done g.D.Area c.self.inside.geometry c.self.inside.areas.items c.self.inside.stage (subst (λ (s : RecoveryPhase). IsOver s) (sym c.in-Done.is) tt)),
  λ done. refl,
)

pub returns-in_default : goal.returns-in_default
returns-in_default g c = (
  λ no. absurd (true≢false (sym no)),
  λ done. absurd (not_over-done g.D.Area c.self.inside.geometry c.self.inside.areas.items c.self.inside.stage c.self.invariant
      (not_done g.D.Area c.self.inside.geometry c.self.inside.areas.items c.self.inside.stage c.in_default.not-Done)
      (subst (λ (r : Recovering g.row.D.Denot). IsDone r) (sym c.self.view_is) done)),
)
