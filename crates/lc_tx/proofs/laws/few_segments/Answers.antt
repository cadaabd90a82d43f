use Rattle.std.proofs.Common.{◌∙◌, sym}
use Rattle.lc_tx.proofs.SetLemmas.{few_numbers}
use Rattle.lc_tx.proofs.laws.few_segments.Goals as goal

pub returns : goal.returns
returns c = λ most segments set is within. few_numbers most set is.ascends (λ k member. within k (sym (is.same k) ∙ member))
