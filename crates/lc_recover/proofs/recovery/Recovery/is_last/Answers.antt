use Rattle.std.proofs.Common.{◌≡◌, ◌+◌, sym, subst, true≢false, eqb-true, eq-eqb}
use Rattle.lc_recover.proofs.Going.{closing-last, last-closing, not_resetting-not_last}
use Rattle.lc_recover.specs.Recovery.{Recovering, recovering, IsLast}
use Rattle.lc_recover.specs.declared.recovery_phase.RecoveryPhase.{RecoveryPhase}
use Rattle.lc_recover.specs.declared.recovery_phase.RecoveryPhase.TheVariants.{Resetting}
use Rattle.lc_recover.proofs.recovery.Recovery.is_last.Goals as goal

pub returns-then-resets : goal.returns-then-resets
returns-then-resets g c =
    let stage_is : c.self.inside.stage ≡ Resetting c.in-Resetting.resets = c.in-Resetting.is in
    let geometry = c.self.inside.geometry in
    let areas = c.self.inside.areas.items in (
      λ last. subst (λ (r : Recovering g.row.D.Denot). IsLast r) c.self.view_is
          (subst (λ (s : RecoveryPhase). IsLast (recovering geometry areas s)) (sym stage_is)
          (closing-last g.D.Area geometry areas c.in-Resetting.resets c.if-resets.true (eqb-true (c.in-Resetting.resets.next + 1) geometry.nodes last))),
      λ last. eq-eqb (c.in-Resetting.resets.next + 1) geometry.nodes
          (last-closing g.D.Area geometry areas c.in-Resetting.resets
          (subst (λ (s : RecoveryPhase). IsLast (recovering geometry areas s)) stage_is
          (subst (λ (r : Recovering g.row.D.Denot). IsLast r) (sym c.self.view_is) last))).1,
    )

pub returns-in_default : goal.returns-in_default
returns-in_default g c = (
  λ no. absurd (true≢false (sym no)),
  λ last. absurd (not_resetting-not_last g.D.Area c.self.inside.geometry c.self.inside.areas.items c.self.inside.stage c.self.invariant c.in_default.not-Resetting
      (subst (λ (r : Recovering g.row.D.Denot). IsLast r) (sym c.self.view_is) last)),
)
