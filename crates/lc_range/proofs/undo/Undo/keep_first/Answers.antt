use Rattle.std.proofs.Common.{◌≡◌, ◌-◌, ◌+◌, ◌++◌, [], ◌∷◌, ℕ, List, length, take, drop, is_err, ap, sym, subst, ◌∙◌, arith, length-take, length-drop}
use Rattle.lc_range.specs.Copies.{AreCopies, copies_of}
use Rattle.lc_range.specs.declared.range.Range.{Range}
use Rattle.lc_range.proofs.AddLemmas.{err_is_not_ok, no_room, on_err_of}
use Rattle.lc_range.proofs.GrowLemmas.{copy_of}
use Rattle.lc_range.proofs.FirstLemmas.{none_yet, are_first_copies, one_copy}
use Rattle.lc_range.proofs.undo.Undo.keep_first.Goals as goal

pub returns-in_err-extend_from_slice-clause-needs : goal.returns-in_err-extend_from_slice-clause-needs
returns-in_err-extend_from_slice-clause-needs c =
    let none = none_yet c.self.inside.ranges.items c.self.inside.bytes.items (c.self.view_is ∙ c.requires.none) c.self.invariant.copies in
    on_err_of c.from_residual.result
    (no_room c.args.range.len 64 (λ few. err_is_not_ok c.extend_from_slice.result (ap is_err c.in_err-extend_from_slice.was)
    (c.extend_from_slice.ensures.succeeds (omega (arith, few, none.1, c.self.invariant.few_bytes, length-take {A = ℕ}, length-drop {A = ℕ})))))

pub push_reserved-requires : goal.push_reserved-requires
push_reserved-requires c =
    let none = none_yet c.self.inside.ranges.items c.self.inside.bytes.items (c.self.view_is ∙ c.requires.none) c.self.invariant.copies in
    (omega arith, omega (arith, none.0, c.self.invariant.few_ranges))

pub invariant_of-self-2 : goal.invariant_of-self-2
invariant_of-self-2 c =
    let xs = c.self.inside.ranges.items in
    let bytes = c.self.inside.bytes.items in
    let range : Range = c.args.range in
    let part : List ℕ = take (c.args.range.offset + c.args.range.len - c.args.range.offset) (drop c.args.range.offset c.args.image.now) in
    let long : length part ≡ c.args.range.len = omega (arith, c.requires.within, length-take {A = ℕ}, length-drop {A = ℕ}) in
    record {
      copies =
          subst (λ (l : List Range). AreCopies l c.extend_from_slice.new.self.items) (sym c.push_reserved.ensures.items)
          (subst (λ (b : List ℕ). AreCopies (xs ++ range ∷ []) b) (sym c.in_ok-extend_from_slice.ensures.ok)
          (are_first_copies xs bytes part range (c.self.view_is ∙ c.requires.none) c.self.invariant.copies c.requires.some long));
      few_ranges = omega (arith, c.push_reserved.ensures.capacity, c.self.invariant.few_ranges);
      few_bytes = omega (arith, c.in_ok-extend_from_slice.ensures.capacity, c.self.invariant.few_bytes);
    }

pub returns-clause-ok : goal.returns-clause-ok
returns-clause-ok c =
    let xs = c.self.inside.ranges.items in
    let bytes = c.self.inside.bytes.items in
    let range : Range = c.args.range in
    let part : List ℕ = take (c.args.range.offset + c.args.range.len - c.args.range.offset) (drop c.args.range.offset c.args.image.now) in
    let long : length part ≡ c.args.range.len = omega (arith, c.requires.within, length-take {A = ℕ}, length-drop {A = ℕ}) in
    let whole : c.args.range.offset + c.args.range.len - c.args.range.offset ≡ c.args.range.len = omega arith in
    ap (λ (l : List Range). copies_of l c.extend_from_slice.new.self.items) c.push_reserved.ensures.items
    ∙ ap (copies_of (xs ++ range ∷ [])) c.in_ok-extend_from_slice.ensures.ok
    ∙ one_copy xs bytes part range (c.self.view_is ∙ c.requires.none) c.self.invariant.copies long
    ∙ ap (λ (n : ℕ). copy_of c.args.range (take n (drop c.args.range.offset c.args.image.now)) ∷ []) whole
