use Rattle.std.proofs.Common.{◌≡◌, ◌∙◌, ap, Err}
use Rattle.std.proofs.lemmas.Result.{err_from_is_err_and}
use Rattle.lc_tx.specs.declared.tx_fault.TxFault.{TxFault}
use Rattle.lc_tx.specs.declared.tx_fault.TxFault.TheVariants.{ReadOnly}
use Rattle.lc_tx.proofs.EndLemmas.{handed_on}
use Rattle.lc_tx.proofs.HoldsLemmas.{reads_not_locked}
use Rattle.lc_tx.proofs.tx.Tx.set_range.Goals as goal

pub returns-in_err-check_range-clause-read_only : goal.returns-in_err-check_range-clause-read_only
returns-in_err-check_range-clause-read_only g c =
    let p = err_from_is_err_and c.from_residual.result c.from_residual.ensures.1 in
    let is : c.from_residual.result ≡ Err c.in_err-check_range.field-0.0 = p.1 ∙ ap (λ (f : TxFault). Err f) p.2 in
    λ s.
    let told = handed_on c.check_range.result c.from_residual.result c.in_err-check_range.field-0.0 (ReadOnly s) c.in_err-check_range.was is (c.check_range.ensures.read_only s) in (
      λ e. (let h = told.0 e in (h.0, h.2)),
      λ h. told.1 (h.0, reads_not_locked g.I.Images c.args.images.now c.args.self.now c.args.segment c.requires.runs h.0, h.1),
    )
