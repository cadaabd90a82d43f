use Rattle.std.proofs.Common.{◌≡◌, refl, inl, inr, sym, true≢false}
use Rattle.lc_model.specs.declared.reply.Reply.TheVariants.{Refused}
use Rattle.lc_model.specs.declared.refusal.Refusal.TheVariants.{Unknown, DeviceFault}
use Rattle.lc_model.proofs.examples_of_refusals.unknown_pages.Goals as goal

pub returns-clause-page : goal.returns-clause-page
returns-clause-page c = ((refl, refl), λ reply new step. step)

pub returns-clause-last_page : goal.returns-clause-last_page
returns-clause-last_page c = λ new step. elim step [ inl one ↦ true≢false (sym one.0) | inr two ↦ absurd (let e : Refused Unknown ≡ Refused DeviceFault = two.0 in cc) ]
