use Rattle.std.proofs.Common.{◌≡◌, refl, ap, ◌∙◌, Err}
use Rattle.std.proofs.lemmas.Result.{err_from_is_err_and}
use Rattle.lc_tx.specs.declared.tx_fault.TxFault.{TxFault}
use Rattle.lc_tx.specs.declared.tx_fault.TxFault.TheVariants.{Busy, NotHere}
use Rattle.lc_tx.proofs.EndLemmas.{handed_on}
use Rattle.lc_desk.proofs.Seated.{idle_free, rests_idle}
use Rattle.lc_desk.proofs.seat.Seat.begin.Goals as goal

pub begin_again-requires-clause-idle : goal.begin_again-requires-clause-idle
begin_again-requires-clause-idle c = idle_free c.self.inside.doing c.self.inside.tx (c.self.view_is ∙ c.requires.free) c.self.invariant

pub invariant_of-self : goal.invariant_of-self
invariant_of-self c = rests_idle c.self.inside.doing c.begin_again.new.self c.in_err-begin_again.ensures.idle

pub returns-in_err-begin_again-clause-not_here : goal.returns-in_err-begin_again-clause-not_here
returns-in_err-begin_again-clause-not_here c =
    let p = err_from_is_err_and c.from_residual.result c.from_residual.ensures.1 in
    let is : c.from_residual.result ≡ Err c.in_err-begin_again.field-0.0 = p.1 ∙ ap (λ (f : TxFault). Err f) p.2 in
    λ s. handed_on c.begin_again.result c.from_residual.result c.in_err-begin_again.field-0.0 (NotHere s) c.in_err-begin_again.was is (c.begin_again.ensures.not_here s)

pub returns-in_err-begin_again-clause-busy : goal.returns-in_err-begin_again-clause-busy
returns-in_err-begin_again-clause-busy c =
    let p = err_from_is_err_and c.from_residual.result c.from_residual.ensures.1 in
    let is : c.from_residual.result ≡ Err c.in_err-begin_again.field-0.0 = p.1 ∙ ap (λ (f : TxFault). Err f) p.2 in
    λ s. handed_on c.begin_again.result c.from_residual.result c.in_err-begin_again.field-0.0 (Busy s) c.in_err-begin_again.was is (c.begin_again.ensures.busy s)

pub returns-clause-begins : goal.returns-clause-begins
returns-clause-begins c = record { tx = c.begin_again.new.self; is = refl; begins = c.in_ok-begin_again.ensures.begins; runs = c.in_ok-begin_again.ensures.runs }
