use Rattle.std.proofs.Common.{◌≡◌, refl, inl, inr, arith, lit<}
use Rattle.lc_model.specs.declared.reply.Reply.TheVariants.{Ok as Accepted, Refused}
use Rattle.lc_model.specs.declared.refusal.Refusal.TheVariants.{Busy, Writing, Unflushed}
use Rattle.lc_model.proofs.examples_of_locks.reader_holds_on.Goals as goal

pub returns-clause-writer_waits : goal.returns-clause-writer_waits
returns-clause-writer_waits c = ((refl, refl), λ reply new step. step)

pub returns-clause-reader_beside : goal.returns-clause-reader_beside
returns-clause-reader_beside c = (refl, refl)

pub returns-clause-reader_not_busy : goal.returns-clause-reader_not_busy
returns-clause-reader_not_busy c = λ new step. absurd (let e : Refused (Busy 1) ≡ Accepted = step.0 in cc)

pub returns-clause-token_stays : goal.returns-clause-token_stays
returns-clause-token_stays c = ((refl, refl), λ reply new step. step)

pub returns-clause-then_free : goal.returns-clause-then_free
returns-clause-then_free c = (refl, refl)

pub returns-clause-then_not_busy : goal.returns-clause-then_not_busy
returns-clause-then_not_busy c = λ new step. absurd (let e : Refused (Busy 1) ≡ Accepted = step.0 in cc)

pub returns-clause-unflushed : goal.returns-clause-unflushed
returns-clause-unflushed c = inr (inl (refl, lit< tt, refl))

pub returns-clause-not_to_another : goal.returns-clause-not_to_another
returns-clause-not_to_another c = λ new step. elim step [ inl one ↦ absurd (let e : 0 ≡ 1 = one.1 in omega (arith, e)) | inr two ↦ elim two [ inl one ↦ absurd (let e : Accepted ≡ Refused Unflushed = one.0 in cc) | inr one ↦ absurd (let e : Accepted ≡ Refused Writing = one.0 in cc) ] ]
