use Rattle.std.proofs.Common.{◌≡◌, ◌-◌, ◌++◌, ℕ, List, length, take, drop, ap, sym, subst, ◌∙◌, inl, inr, arith, length-append}
use Rattle.lc_range.specs.Undo.{OldBytes, bytes_kept}
use Rattle.lc_range.specs.Copies.{AreCopies, copies_of, with_range, with_copy, with_copies}
use Rattle.lc_range.specs.Walk.{piece}
use Rattle.lc_range.specs.declared.range.Range.{Range}
use Rattle.lc_range.proofs.AddLemmas.{on_err_of}
use Rattle.lc_range.proofs.CopyLemmas.{length_part}
use Rattle.lc_range.proofs.CutLemmas.{bytes_in, length_copies}
use Rattle.lc_range.proofs.GrowLemmas.{are_copies_with, copies_with, copy_of}
use Rattle.lc_range.proofs.OutsideLemmas.{full}
use Rattle.lc_range.proofs.undo.Undo.keep.Goals as goal

pub invariant_of-self : goal.invariant_of-self
invariant_of-self c =
    let range : Range = record { segment = c.args.segment; offset = c.args.from; len = c.args.to - c.args.from } in
    let part : List ℕ = take (c.args.to - c.args.from) (drop c.args.from c.args.image.now) in
    let long : length part ≡ c.args.to - c.args.from = length_part c.args.image.now c.args.from (c.args.to - c.args.from) (omega (arith, c.requires, c.if-from-to.true)) in
    let xs = c.self.inside.ranges.items in
    let bytes = c.self.inside.bytes.items in
    record {
      copies =
          subst (λ (l : List Range). AreCopies l c.add.new.bytes.items) (sym c.in_ok-add.ensures.ranges)
          (subst (λ (b : List ℕ). AreCopies (with_range xs range) b) (sym c.in_ok-add.ensures.bytes) (are_copies_with xs range bytes part c.self.invariant.copies (omega (arith, c.if-from-to.true)) long));
      few_ranges = omega (arith, c.in_ok-add.ensures.ranges_capacity, c.self.invariant.few_ranges);
      few_bytes = omega (arith, c.in_ok-add.ensures.bytes_capacity, c.self.invariant.few_bytes);
    }

pub returns-in_ok-add-clause-ok : goal.returns-in_ok-add-clause-ok
returns-in_ok-add-clause-ok c =
    let range : Range = record { segment = c.args.segment; offset = c.args.from; len = c.args.to - c.args.from } in
    let part : List ℕ = take (c.args.to - c.args.from) (drop c.args.from c.args.image.now) in
    let long : length part ≡ c.args.to - c.args.from = length_part c.args.image.now c.args.from (c.args.to - c.args.from) (omega (arith, c.requires, c.if-from-to.true)) in
    let xs = c.self.inside.ranges.items in
    let bytes = c.self.inside.bytes.items in
    ap (λ (l : List Range). copies_of l c.add.new.bytes.items) c.in_ok-add.ensures.ranges ∙ ap (copies_of (with_range xs range)) c.in_ok-add.ensures.bytes
    ∙ copies_with xs range bytes part c.self.invariant.copies.whole long ∙ ap (λ (l : List OldBytes). with_copy l (copy_of range part)) c.self.view_is
    ∙ sym (ap (with_copies c.args.self.now c.args.image.now) (full c.args.segment c.args.from c.args.to c.if-from-to.true))

pub returns-in_err-add-clause-needs : goal.returns-in_err-add-clause-needs
returns-in_err-add-clause-needs c =
    let range : Range = record { segment = c.args.segment; offset = c.args.from; len = c.args.to - c.args.from } in
    let part : List ℕ = take (c.args.to - c.args.from) (drop c.args.from c.args.image.now) in
    let long : length part ≡ c.args.to - c.args.from = length_part c.args.image.now c.args.from (c.args.to - c.args.from) (omega (arith, c.requires, c.if-from-to.true)) in
    let xs = c.self.inside.ranges.items in
    let bytes = c.self.inside.bytes.items in
    let more : List Range = with_range xs range in
    let all : List OldBytes = with_copies c.args.self.now c.args.image.now (piece c.args.segment c.args.from c.args.to) in
    let are : AreCopies more (bytes ++ part) = are_copies_with xs range bytes part c.self.invariant.copies (omega (arith, c.if-from-to.true)) long in
    let same : copies_of more (bytes ++ part) ≡ all =
    copies_with xs range bytes part c.self.invariant.copies.whole long ∙ ap (λ (l : List OldBytes). with_copy l (copy_of range part)) c.self.view_is
    ∙ sym (ap (with_copies c.args.self.now c.args.image.now) (full c.args.segment c.args.from c.args.to c.if-from-to.true)) in
    on_err_of c.from_residual.result (elim c.in_err-add.ensures.memory [
      | inl many ↦ inl (omega (arith, many, c.self.invariant.few_ranges, length_copies more (bytes ++ part), ap length same))
      | inr large ↦ inr (omega (arith, large, c.self.invariant.few_bytes, bytes_in more (bytes ++ part) are.whole, are.whole, length-append bytes part, ap bytes_kept same))
    ])
