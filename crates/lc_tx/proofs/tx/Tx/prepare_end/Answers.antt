use Rattle.std.proofs.Common.{◌≡◌, Err, ap, ◌∙◌}
use Rattle.std.proofs.lemmas.Result.{err_from_is_err_and}
use Rattle.lc_tx.specs.declared.tx_fault.TxFault.{TxFault}
use Rattle.lc_tx.specs.declared.tx_fault.TxFault.TheVariants.{TooLong}
use Rattle.lc_tx.proofs.EndLemmas.{handed_on}
use Rattle.lc_tx.proofs.tx.Tx.prepare_end.Goals as goal

-- it is refused as what it calls

pub returns-in_err-prepare_end_in-clause-too_long : goal.returns-in_err-prepare_end_in-clause-too_long
returns-in_err-prepare_end_in-clause-too_long g c =
    let p = err_from_is_err_and c.from_residual.result c.from_residual.ensures.1 in
    let is : c.from_residual.result ≡ Err c.in_err-prepare_end_in.field-0.0 = p.1 ∙ ap (λ (f : TxFault). Err f) p.2 in
    λ x. handed_on c.prepare_end_in.result c.from_residual.result c.in_err-prepare_end_in.field-0.0 (TooLong x) c.in_err-prepare_end_in.was is (c.prepare_end_in.ensures.too_long x)
