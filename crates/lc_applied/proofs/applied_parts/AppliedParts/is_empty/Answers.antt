use Rattle.std.proofs.Common.{◌==◌, ℕ, length, ap, sym, ◌∙◌}
use Rattle.lc_applied.specs.AppliedParts.{Applied}
use Rattle.lc_applied.proofs.PartsLemmas.{length-parts}
use Rattle.lc_applied.proofs.applied_parts.AppliedParts.is_empty.Goals as goal

pub returns : goal.returns
returns c =
    let fields = c.self.inside in
    let count = length-parts fields.entries.items fields.runs.items fields.bytes.items in
    let seen = ap (λ (a : Applied). length a.parts) c.self.view_is in
    c.is_empty.ensures ∙ ap (λ (n : ℕ). n == 0) (fields.entries.ok.0 ∙ sym count ∙ seen)
