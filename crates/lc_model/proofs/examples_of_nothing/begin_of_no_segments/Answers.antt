use Rattle.std.proofs.Common.{◌≡◌, refl}
use Rattle.lc_model.specs.declared.reply.Reply.TheVariants.{Ok as Accepted, Reserved, Ended, Refused}
use Rattle.lc_model.specs.declared.refusal.Refusal.TheVariants.{Busy}
use Rattle.lc_model.proofs.examples_of_nothing.begin_of_no_segments.Goals as goal

pub returns-clause-begins : goal.returns-clause-begins
returns-clause-begins c = (refl, refl)

pub returns-clause-not_refused : goal.returns-clause-not_refused
returns-clause-not_refused c = λ refusal new step. absurd (let e : Refused refusal ≡ Accepted = step.0 in cc)

pub returns-clause-holds_none : goal.returns-clause-holds_none
returns-clause-holds_none c = λ segment. refl

pub returns-clause-others_begin : goal.returns-clause-others_begin
returns-clause-others_begin c = (refl, refl)

pub returns-clause-others_not_busy : goal.returns-clause-others_not_busy
returns-clause-others_not_busy c = λ new step. absurd (let e : Refused (Busy 2) ≡ Accepted = step.0 in cc)

pub returns-clause-has_begun : goal.returns-clause-has_begun
returns-clause-has_begun c = ((refl, refl), λ reply new step. step)

pub returns-clause-sets_nothing : goal.returns-clause-sets_nothing
returns-clause-sets_nothing c = ((refl, refl), λ reply new step. step)

pub returns-clause-ends : goal.returns-clause-ends
returns-clause-ends c = (refl, refl)

pub returns-clause-not_reserved : goal.returns-clause-not_reserved
returns-clause-not_reserved c = λ place words new step. absurd (let e : Reserved place words ≡ Ended = step.0 in cc)
