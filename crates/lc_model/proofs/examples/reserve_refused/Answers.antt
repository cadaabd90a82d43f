use Rattle.std.proofs.Common.{◌≡◌, refl, sym, inl, inr, true≢false}
use Rattle.lc_model.specs.declared.reply.Reply.TheVariants.{Reserved, Refused}
use Rattle.lc_model.specs.declared.refusal.Refusal.{Refusal}
use Rattle.lc_model.specs.declared.refusal.Refusal.TheVariants.{Busy, OutOfTurn, SequenceSpent, TooLong, Sealed, Full}
use Rattle.lc_model.proofs.examples.reserve_refused.Goals as goal
use Rattle.std.proofs.Common.{true, subst}
use Rattle.lc_model.specs.Machine.{may_refuse_reserve}

pub returns-clause-spent : goal.returns-clause-spent
returns-clause-spent c = inr (SequenceSpent 1, refl, refl, refl)

pub returns-clause-too_long : goal.returns-clause-too_long
returns-clause-too_long c = inr (TooLong 5000, refl, refl, refl)

pub returns-clause-sealed : goal.returns-clause-sealed
returns-clause-sealed c = inr (Sealed, refl, refl, refl)

pub returns-clause-full : goal.returns-clause-full
returns-clause-full c = inr (Full 60 8, refl, refl, refl)

pub returns-clause-not_busy : goal.returns-clause-not_busy
returns-clause-not_busy c = λ new step. elim step [
  | inl one ↦ absurd (let e : Refused (Busy 1) ≡ Reserved one.0 one.1 = one.2 in cc)
  | inr one ↦
      let is : Refused (Busy 1) ≡ Refused one.0 = one.2 in
      let same : Busy 1 ≡ one.0 = cc in
      absurd (true≢false (sym (subst (λ (r : Refusal). may_refuse_reserve r ≡ true) (sym same) one.1)))
]

pub returns-clause-no_turn : goal.returns-clause-no_turn
returns-clause-no_turn c = (refl, refl)

pub returns-clause-not_twice : goal.returns-clause-not_twice
returns-clause-not_twice c = λ new step. absurd (let e : Reserved 0 8 ≡ Refused OutOfTurn = step.0 in cc)
