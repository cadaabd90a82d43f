use Rattle.std.proofs.Common.{◌≡◌, ◌<◌, refl, inl, inr, arith}
use Rattle.lc_model.specs.declared.reply.Reply.TheVariants.{Ok as Accepted, Refused}
use Rattle.lc_model.specs.declared.refusal.Refusal.TheVariants.{Held, Writing, Unflushed}
use Rattle.lc_model.proofs.examples.leave_waits.Goals as goal
use Rattle.std.proofs.Common.{lit<}

pub returns-clause-unflushed : goal.returns-clause-unflushed
returns-clause-unflushed c = inr (inl (refl, lit< tt, refl))

pub returns-clause-not_ok : goal.returns-clause-not_ok
returns-clause-not_ok c = λ new step. elim step [ inl one ↦ absurd (let e : 1 ≡ 2 = one.1 in omega (arith, e)) | inr two ↦ elim two [ inl one ↦ absurd (let e : Accepted ≡ Refused Unflushed = one.0 in cc) | inr one ↦ absurd (let e : Accepted ≡ Refused Writing = one.0 in cc) ] ]

pub returns-clause-held : goal.returns-clause-held
returns-clause-held c = (refl, refl)

pub returns-clause-held_first : goal.returns-clause-held_first
returns-clause-held_first c = λ new step. absurd (let e : Refused Unflushed ≡ Refused Held = step.0 in cc)

pub returns-clause-leaves : goal.returns-clause-leaves
returns-clause-leaves c = inl (refl, refl, refl)

pub returns-clause-not_unflushed : goal.returns-clause-not_unflushed
returns-clause-not_unflushed c = λ new step. elim step [ inl one ↦ absurd (let e : Refused Unflushed ≡ Accepted = one.0 in cc) | inr two ↦ elim two [ inl one ↦ absurd (let e : 2 < 2 = one.1 in omega (arith, e)) | inr one ↦ absurd (let e : Refused Unflushed ≡ Refused Writing = one.0 in cc) ] ]
