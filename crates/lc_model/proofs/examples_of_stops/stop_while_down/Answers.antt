use Rattle.std.proofs.Common.{◌≡◌, ◌∷◌, [], refl, ap}
use Rattle.lc_model.specs.declared.reply.Reply.TheVariants.{Refused}
use Rattle.lc_model.specs.State.{State, DownAt}
use Rattle.lc_model.specs.declared.reply.Reply.TheVariants.{Down as WentDown}
use Rattle.lc_model.specs.declared.refusal.Refusal.TheVariants.{Down as WasDown}
use Rattle.lc_model.proofs.examples_of_stops.stop_while_down.Goals as goal

pub returns-clause-same : goal.returns-clause-same
returns-clause-same c = λ choices. (refl, refl)

pub returns-clause-no_other_cut : goal.returns-clause-no_other_cut
returns-clause-no_other_cut c = λ choices cut step. let e : DownAt cut ≡ DownAt (1 ∷ 1 ∷ []) = ap (λ (u : State). u.phase) step.1 in cc

pub returns-clause-not_none : goal.returns-clause-not_none
returns-clause-not_none c = λ choices step. absurd (let e : DownAt (0 ∷ 0 ∷ []) ≡ DownAt (1 ∷ 1 ∷ []) = ap (λ (u : State). u.phase) step.1 in cc)

pub returns-clause-no_refusal : goal.returns-clause-no_refusal
returns-clause-no_refusal c = λ choices new step. absurd (let e : Refused WasDown ≡ WentDown = step.0 in cc)
