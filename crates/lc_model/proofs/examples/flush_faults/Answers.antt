use Rattle.std.proofs.Common.{◌≡◌, refl, sym, ap, inl, inr, true≢false}
use Rattle.lc_model.specs.State.{State}
use Rattle.lc_model.specs.declared.reply.Reply.TheVariants.{Stepped, Acked, Refused}
use Rattle.lc_model.specs.declared.refusal.Refusal.TheVariants.{DeviceFault, Halted}
use Rattle.lc_model.proofs.examples.flush_faults.Goals as goal

pub returns-clause-first_step : goal.returns-clause-first_step
returns-clause-first_step c = inr (refl, refl)

pub returns-clause-second_step : goal.returns-clause-second_step
returns-clause-second_step c = inr (refl, refl)

pub returns-clause-third_step : goal.returns-clause-third_step
returns-clause-third_step c = inr (refl, refl)

pub returns-clause-fourth_step : goal.returns-clause-fourth_step
returns-clause-fourth_step c = inr (refl, refl)

pub returns-clause-halts : goal.returns-clause-halts
returns-clause-halts c = λ new step. elim step [ inl one ↦ absurd (let e : Refused DeviceFault ≡ Acked 2 = one.0 in cc) | inr one ↦ (ap (λ (s : State). s.halted 0) one.1, ap (λ (s : State). s.ack 0) one.1) ]

pub returns-clause-not_unchanged : goal.returns-clause-not_unchanged
returns-clause-not_unchanged c = λ step. elim step [ inl one ↦ absurd (let e : Refused DeviceFault ≡ Stepped 1 = one.0 in cc) | inr one ↦ true≢false (sym (ap (λ (s : State). s.halted 0) one.1)) ]

pub returns-clause-then_halted : goal.returns-clause-then_halted
returns-clause-then_halted c = (refl, refl)

pub returns-clause-no_ack_behind : goal.returns-clause-no_ack_behind
returns-clause-no_ack_behind c = λ new step. absurd (let e : Acked 2 ≡ Refused Halted = step.0 in cc)
