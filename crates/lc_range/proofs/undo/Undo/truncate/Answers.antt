use Rattle.std.proofs.Common.{List, ℕ, ap, subst, sym, ◌∙◌, arith}
use Rattle.lc_range.specs.Undo.{first_bytes}
use Rattle.lc_range.specs.Copies.{AreCopies, copies_of, first_ranges}
use Rattle.lc_range.specs.declared.range.Range.{Range}
use Rattle.lc_range.proofs.CutLemmas.{are_first, copies_first}
use Rattle.lc_range.proofs.undo.Undo.truncate.Goals as goal

pub invariant_of-self : goal.invariant_of-self
invariant_of-self c = record {
  copies =
      subst (λ (l : List Range). AreCopies l c.truncate.new.self.items) (sym c.cut_back.ensures.items)
      (subst (λ (b : List ℕ). AreCopies (first_ranges c.args.len c.self.inside.ranges.items) b) (sym c.truncate.ensures.items) (are_first c.args.len c.self.inside.ranges.items c.self.inside.bytes.items c.self.invariant.copies));
  few_ranges = omega (arith, c.cut_back.ensures.capacity, c.self.invariant.few_ranges);
  few_bytes = omega (arith, c.truncate.ensures.capacity, c.self.invariant.few_bytes);
}

pub returns : goal.returns
returns c =
    ap (λ (l : List Range). copies_of l c.truncate.new.self.items) c.cut_back.ensures.items ∙ ap (copies_of (first_ranges c.args.len c.self.inside.ranges.items)) c.truncate.ensures.items
    ∙ copies_first c.args.len c.self.inside.ranges.items c.self.inside.bytes.items c.self.invariant.copies.whole ∙ ap (first_bytes c.args.len) c.self.view_is
