use Rattle.std.proofs.Common.{◌≡◌, refl, inl, inr, sym, ap, true≢false}
use Rattle.lc_model.specs.declared.reply.Reply.TheVariants.{Ok as Accepted, Stepped, Written, Reset, Refused}
use Rattle.lc_model.specs.declared.refusal.Refusal.TheVariants.{NotHere, DeviceFault, Sealed}
use Rattle.lc_model.specs.State.{State}
use Rattle.lc_model.proofs.examples_of_pages.reset_steps.Goals as goal

pub returns-clause-first_step : goal.returns-clause-first_step
returns-clause-first_step c = inl (refl, refl)

pub returns-clause-last_step : goal.returns-clause-last_step
returns-clause-last_step c = inl (refl, refl)

pub returns-clause-no_step_before : goal.returns-clause-no_step_before
returns-clause-no_step_before c = λ new step. elim step [ inl one ↦ true≢false (sym one.0) | inr two ↦ absurd (let e : Stepped 0 ≡ Refused DeviceFault = two.0 in cc) ]

pub returns-clause-no_step_behind : goal.returns-clause-no_step_behind
returns-clause-no_step_behind c = λ new step. elim step [ inl one ↦ true≢false (sym one.0) | inr two ↦ absurd (let e : Stepped 4 ≡ Refused DeviceFault = two.0 in cc) ]

pub returns-clause-reset : goal.returns-clause-reset
returns-clause-reset c = inl (refl, refl)

pub returns-clause-nothing : goal.returns-clause-nothing
returns-clause-nothing c = inl (refl, refl)

pub returns-clause-unflushed : goal.returns-clause-unflushed
returns-clause-unflushed c = inl (refl, refl)

pub returns-clause-unclean : goal.returns-clause-unclean
returns-clause-unclean c = inl (refl, refl)

pub returns-clause-rounds_spent : goal.returns-clause-rounds_spent
returns-clause-rounds_spent c = inl (refl, refl)

pub returns-clause-not_written : goal.returns-clause-not_written
returns-clause-not_written c = λ new step. elim step [ inl one ↦ true≢false (sym one.0) | inr two ↦ absurd (let e : Written 2 ≡ Refused DeviceFault = two.0 in cc) ]

pub returns-clause-not_ok : goal.returns-clause-not_ok
returns-clause-not_ok c = λ new step. elim step [ inl one ↦ true≢false (sym one.0) | inr two ↦ absurd (let e : Accepted ≡ Refused DeviceFault = two.0 in cc) ]

pub returns-clause-not_sealed : goal.returns-clause-not_sealed
returns-clause-not_sealed c = λ new step. elim step [ inl one ↦ true≢false (sym one.0) | inr two ↦ absurd (let e : Refused Sealed ≡ Refused DeviceFault = two.0 in cc) ]

pub returns-clause-not_not_here : goal.returns-clause-not_not_here
returns-clause-not_not_here c = λ new step. elim step [ inl one ↦ true≢false (sym one.0) | inr two ↦ absurd (let e : Refused (NotHere 1) ≡ Refused DeviceFault = two.0 in cc) ]

pub returns-clause-fault_halts : goal.returns-clause-fault_halts
returns-clause-fault_halts c = inr (refl, refl)

pub returns-clause-fault_does_no_more : goal.returns-clause-fault_does_no_more
returns-clause-fault_does_no_more c = λ new step. elim step [ inl one ↦ absurd (true≢false (sym one.0)) | inr two ↦ two.1 ]

pub returns-clause-fault_does_no_less : goal.returns-clause-fault_does_no_less
returns-clause-fault_does_no_less c = λ step. elim step [ inl one ↦ true≢false (sym one.0) | inr two ↦ true≢false (sym (ap (λ (s : State). s.halted 0) two.1)) ]

pub returns-clause-nothing_changes : goal.returns-clause-nothing_changes
returns-clause-nothing_changes c = λ new step. elim step [ inl one ↦ one.1 | inr two ↦ absurd (let e : Reset ≡ Refused DeviceFault = two.0 in cc) ]
