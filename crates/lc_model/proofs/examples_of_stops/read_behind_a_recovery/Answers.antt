use Rattle.std.proofs.Common.{◌≡◌, ◌∷◌, [], refl, inr}
use Rattle.lc_model.specs.declared.reply.Reply.TheVariants.{Bytes}
use Rattle.lc_model.specs.ExamplesOfStops.{recovered, begun_again}
use Rattle.lc_model.proofs.examples_of_stops.read_behind_a_recovery.Goals as goal

pub returns-clause-kept : goal.returns-clause-kept
returns-clause-kept c = (refl, refl)

pub returns-clause-not_lost : goal.returns-clause-not_lost
returns-clause-not_lost c = λ new step. absurd (let e : Bytes (32 ∷ 0 ∷ []) ≡ Bytes (22 ∷ 0 ∷ []) = step.0 in cc)

pub returns-clause-not_zeros : goal.returns-clause-not_zeros
returns-clause-not_zeros c = λ new step. absurd (let e : Bytes (0 ∷ 0 ∷ []) ≡ Bytes (22 ∷ 0 ∷ []) = step.0 in cc)

pub returns-clause-from_the_stop : goal.returns-clause-from_the_stop
returns-clause-from_the_stop c = (begun_again, (recovered, inr (inr (refl, refl)), (begun_again, (refl, refl), (begun_again, (refl, refl), refl))))
