use Rattle.std.proofs.Common.{◌≡◌, [], ◌∷◌, refl}
use Rattle.lc_model.specs.declared.reply.Reply.TheVariants.{Bytes, Refused}
use Rattle.lc_model.specs.declared.refusal.Refusal.TheVariants.{NotLocked}
use Rattle.lc_model.proofs.examples.read_sees.Goals as goal

pub returns-clause-own_on_top : goal.returns-clause-own_on_top
returns-clause-own_on_top c = (refl, refl)

pub returns-clause-not_without_own : goal.returns-clause-not_without_own
returns-clause-not_without_own c = λ new step. absurd (let e : Bytes (21 ∷ 0 ∷ 0 ∷ []) ≡ Bytes (21 ∷ 99 ∷ 0 ∷ []) = step.0 in cc)

pub returns-clause-not_before : goal.returns-clause-not_before
returns-clause-not_before c = λ new step. absurd (let e : Bytes (11 ∷ 99 ∷ 0 ∷ []) ≡ Bytes (21 ∷ 99 ∷ 0 ∷ []) = step.0 in cc)

pub returns-clause-not_locked : goal.returns-clause-not_locked
returns-clause-not_locked c = (refl, refl)

pub returns-clause-no_other_bytes : goal.returns-clause-no_other_bytes
returns-clause-no_other_bytes c = λ bytes new step. absurd (let e : Bytes bytes ≡ Refused NotLocked = step.0 in cc)
