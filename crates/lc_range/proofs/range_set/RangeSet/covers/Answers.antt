use Rattle.std.proofs.Common.{◌≡◌, List, ap, sym, subst, ◌∙◌, arith}
use Rattle.lc_range.specs.RangeSet.{Has}
use Rattle.lc_range.specs.Walk.{some_holds}
use Rattle.lc_range.specs.declared.range.Range.{Range}
use Rattle.lc_range.proofs.AddLemmas.{covers_iff}
use Rattle.lc_range.proofs.range_set.RangeSet.covers.Goals as goal

pub returns-else-len-eq0 : goal.returns-else-len-eq0
returns-else-len-eq0 c =
    let runs = c.self.inside.runs.items in
    let range : Range = record { segment = c.args.segment; offset = c.args.offset; len = c.args.len } in
    let is = covers_iff runs range c.self.invariant.canonical (omega (arith, c.if-len-eq0.false)) in
    let tested : c.some_holds.result ≡ some_holds runs range = c.some_holds.ensures ∙ ap (λ (l : List Range). some_holds l range) c.as_slice.ensures in (
      λ e k low high. subst (λ (l : List Range). Has l c.args.segment k) c.self.view_is (is.0 (sym tested ∙ e) k low high),
      λ all. tested ∙ is.1 (λ k low high. subst (λ (l : List Range). Has l c.args.segment k) (sym c.self.view_is) (all k low high)),
    )
