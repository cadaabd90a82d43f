use Rattle.std.proofs.Common.{ℕ, List, sym, subst, ◌∙◌}
use Rattle.lc_range.specs.RangeSet.{Has}
use Rattle.lc_range.specs.declared.range.Range.{Range}
use Rattle.lc_range.proofs.AddLemmas.{empty_iff}
use Rattle.lc_range.proofs.range_set.RangeSet.is_empty.Goals as goal

pub returns : goal.returns
returns c =
    let runs = c.self.inside.runs.items in
    let is = empty_iff runs c.self.invariant.canonical in
    let now : (s k : ℕ) → Has c.args.self.now s k → Has runs s k = λ s k h. subst (λ (l : List Range). Has l s k) (sym c.self.view_is) h in
    let back : (s k : ℕ) → Has runs s k → Has c.args.self.now s k = λ s k h. subst (λ (l : List Range). Has l s k) c.self.view_is h in
    (λ e s k h. is.0 (sym c.is_empty.ensures ∙ e) s k (now s k h), λ none. c.is_empty.ensures ∙ is.1 (λ s k h. none s k (back s k h)))
