use Rattle.std.proofs.Common.{ℕ, List, eqb, ◌∙◌, ap}
use Rattle.std.specs.List.{list_all}
use Rattle.lc_record.proofs.DataLemmas.{padding}
use Rattle.lc_record.proofs.data.is_padded.Goals as goal

pub returns : goal.returns
returns c =
    c.are_zero.ensures
    ∙ ap (λ (l : List ℕ). list_all (λ b. eqb b 0) l) (padding c.args.words.now c.to_le_bytes.result c.args.len c.in-len1-up.len_at_least c.requires c.to_le_bytes.ensures)
