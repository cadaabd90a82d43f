use Rattle.std.proofs.Common.{◌≡◌, ℕ, ◌+◌, List, ◌∷◌, take, drop, sym, ap, subst, ◌∙◌, arith}
use Rattle.std.proofs.lemmas.List.{drop_more}
use Rattle.lc_range.specs.RangeSet.{total_len}
use Rattle.lc_range.specs.declared.range.Range.{Range}
use Rattle.lc_applied.specs.AppliedParts.{laid_parts}
use Rattle.lc_applied.specs.AppliedPart.{parts_of, runs_used, AreUsedUp}
use Rattle.lc_applied.specs.declared.applied_part.AppliedPart.{AppliedPart}
use Rattle.lc_applied.proofs.PartsLemmas.{used-behind}
use Rattle.lc_applied.proofs.RunsLemmas.{total-parts}
use Rattle.lc_applied.proofs.applied_parts.AppliedParts.lay_on.Goals as goal

pub lay_on-requires-clause-bytes : goal.lay_on-requires-clause-bytes
lay_on-requires-clause-bytes c =
    let both = total-parts (runs_used c.entry-item.result) c.loop-entry.runs.now in
    let all = c.loop-entry.invariant.used.bytes_are in
    omega (arith, both, all)

pub loop-entry-preserved : goal.loop-entry-preserved
loop-entry-preserved c =
    let items : List AppliedPart = c.as_slice-entry-items.result.now in
    let entry : AppliedPart = c.entry-item.result in
    let later : List AppliedPart = drop (c.loop-entry.entry-index + 1) items in
    let runs : List Range = c.loop-entry.runs.now in
    let bytes : List ℕ = c.loop-entry.bytes.now in
    let total : ℕ = total_len (take (runs_used entry) runs) in
    let image : List ℕ = c.loop-entry.image.bytes.items in
    let next : drop c.loop-entry.entry-index items ≡ entry ∷ later =
    drop_more items c.loop-entry.entry-index entry c.loop-entry-test.true ∙ ap (λ (e : AppliedPart). e ∷ later) (sym c.entry-item.is) in
    let behind = used-behind entry later runs bytes (subst (λ (l : List AppliedPart). AreUsedUp l runs bytes) next c.loop-entry.invariant.used) in
    record {
      bytes =
          ap (λ (l : List Range). laid_parts (parts_of later l c.lay_on.result.1.now) c.lay_on.new.image.bytes.items) c.lay_on.ensures.runs
          ∙ ap (λ (l : List ℕ). laid_parts (parts_of later (drop (runs_used entry) runs) l) c.lay_on.new.image.bytes.items) c.lay_on.ensures.bytes
          ∙ ap (laid_parts (parts_of later (drop (runs_used entry) runs) (drop total bytes))) c.lay_on.ensures.image
          ∙ ap (λ (l : List AppliedPart). laid_parts (parts_of l runs bytes) image) (sym next)
          ∙ c.loop-entry.invariant.bytes;
      holders = c.lay_on.ensures.holders ∙ c.loop-entry.invariant.holders;
      used =
          subst (λ (l : List Range). AreUsedUp later l c.lay_on.result.1.now) (sym c.lay_on.ensures.runs)
          (subst (λ (l : List ℕ). AreUsedUp later (drop (runs_used entry) runs) l) (sym c.lay_on.ensures.bytes) behind);
    }
