use Rattle.std.proofs.Common.{◌≡◌, refl, inl, inr, sym, ap, true≢false}
use Rattle.lc_model.specs.declared.reply.Reply.TheVariants.{Stepped, Nothing, Written, Reset, Refused}
use Rattle.lc_model.specs.declared.refusal.Refusal.TheVariants.{Writing, DeviceFault, Unclean}
use Rattle.lc_model.specs.State.{State}
use Rattle.lc_model.proofs.examples_of_pages.page_steps.Goals as goal

pub returns-clause-first_step : goal.returns-clause-first_step
returns-clause-first_step c = inl (refl, refl)

pub returns-clause-last_step : goal.returns-clause-last_step
returns-clause-last_step c = inl (refl, refl)

pub returns-clause-no_step_before : goal.returns-clause-no_step_before
returns-clause-no_step_before c = λ new step. elim step [ inl one ↦ true≢false (sym one.0) | inr two ↦ absurd (let e : Stepped 0 ≡ Refused DeviceFault = two.0 in cc) ]

pub returns-clause-no_step_behind : goal.returns-clause-no_step_behind
returns-clause-no_step_behind c = λ new step. elim step [ inl one ↦ true≢false (sym one.0) | inr two ↦ absurd (let e : Stepped 6 ≡ Refused DeviceFault = two.0 in cc) ]

pub returns-clause-written : goal.returns-clause-written
returns-clause-written c = λ number. inl (refl, refl)

pub returns-clause-not_here : goal.returns-clause-not_here
returns-clause-not_here c = inl (refl, refl)

pub returns-clause-uncommitted : goal.returns-clause-uncommitted
returns-clause-uncommitted c = inl (refl, refl)

pub returns-clause-unflushed : goal.returns-clause-unflushed
returns-clause-unflushed c = inl (refl, refl)

pub returns-clause-not_newer : goal.returns-clause-not_newer
returns-clause-not_newer c = inl (refl, refl)

pub returns-clause-not_nothing : goal.returns-clause-not_nothing
returns-clause-not_nothing c = λ new step. elim step [ inl one ↦ true≢false (sym one.0) | inr two ↦ absurd (let e : Nothing ≡ Refused DeviceFault = two.0 in cc) ]

pub returns-clause-not_reset : goal.returns-clause-not_reset
returns-clause-not_reset c = λ new step. elim step [ inl one ↦ true≢false (sym one.0) | inr two ↦ absurd (let e : Reset ≡ Refused DeviceFault = two.0 in cc) ]

pub returns-clause-not_writing : goal.returns-clause-not_writing
returns-clause-not_writing c = λ new step. elim step [ inl one ↦ true≢false (sym one.0) | inr two ↦ absurd (let e : Refused Writing ≡ Refused DeviceFault = two.0 in cc) ]

pub returns-clause-not_unclean : goal.returns-clause-not_unclean
returns-clause-not_unclean c = λ new step. elim step [ inl one ↦ true≢false (sym one.0) | inr two ↦ absurd (let e : Refused (Unclean 1 2) ≡ Refused DeviceFault = two.0 in cc) ]

pub returns-clause-fault_halts : goal.returns-clause-fault_halts
returns-clause-fault_halts c = inr (refl, refl)

pub returns-clause-fault_does_no_more : goal.returns-clause-fault_does_no_more
returns-clause-fault_does_no_more c = λ new step. elim step [ inl one ↦ absurd (true≢false (sym one.0)) | inr two ↦ two.1 ]

pub returns-clause-fault_does_no_less : goal.returns-clause-fault_does_no_less
returns-clause-fault_does_no_less c = λ step. elim step [ inl one ↦ true≢false (sym one.0) | inr two ↦ true≢false (sym (ap (λ (s : State). s.halted 0) two.1)) ]

pub returns-clause-nothing_changes : goal.returns-clause-nothing_changes
returns-clause-nothing_changes c = λ new step. elim step [ inl one ↦ one.1 | inr two ↦ absurd (let e : Written 2 ≡ Refused DeviceFault = two.0 in cc) ]
