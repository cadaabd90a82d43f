use Rattle.std.proofs.Common.{◌≡◌, ◌⊎◌, ◌+◌, ◌≤◌, ℕ, List, length, refl, sym, subst, inl, inr, arith}
use Rattle.std.proofs.lemmas.Result.{on_ok_weaker, on_err_weaker}
use Rattle.std.specs.Prelude.{slice_index, OnOk}
use Rattle.lc_range.specs.RangeSet.{CountsOutside, total_len}
use Rattle.lc_range.specs.Walk.{parts_of}
use Rattle.lc_range.specs.declared.range.Range.{Range}
use Rattle.lc_range.specs.Undo.{OldBytes, AddsCopies, KeepsOld, LiesBelow, NeedsBytesAbove, NeedsCopiesAbove, TakeMemory, bytes_kept}
use Rattle.lc_range.specs.Copies.{with_copies}
use Rattle.lc_range.proofs.PartsLemmas.{ArePartsOf, parts_are, misses_some}
use Rattle.lc_range.proofs.GrowLemmas.{bytes_with_copies, copies_with_all}
use Rattle.lc_range.proofs.KeepLemmas.{keeps_first, keeps_bytes, keeps_others, keeps_below}
use Rattle.lc_range.proofs.undo.Undo.keep_at.Goals as goal
use Rattle.lc_range.proofs.undo.Undo.keep_at.Goals.{Else-is_err, After-truncate}

are : (c : Else-is_err) → ArePartsOf c.args.set.now c.args.place.now.range.segment c.args.place.now.range.offset c.args.place.now.range.len (length c.args.image.now) (parts_of c.args.place.now.range c.ranges-2.result.now)
are c =
    parts_are c.args.set.now c.ranges-2.result.now c.args.place.now.range.segment c.args.place.now.range.offset c.args.place.now.range.len (length c.args.image.now) (parts_of c.args.place.now.range c.ranges-2.result.now) _
    c.ranges-2.ensures.runs c.ranges-2.ensures.canonical (omega (arith, c.requires.within)) refl refl

-- what holds of the old copies with the new ones after them
shown : (c : Else-is_err) (P : List OldBytes → Type 0) → P (with_copies c.args.self.now c.args.image.now (parts_of c.args.place.now.range c.ranges-2.result.now))
    → OnOk c.keep_outside-done.result (P c.keep_outside-done.new.self)
shown c P p = on_ok_weaker c.keep_outside-done.result (λ grows. subst P (sym grows) p) c.keep_outside-done.ensures.ok

pub returns-then-is_err-clause-memory : goal.returns-then-is_err-clause-memory
returns-then-is_err-clause-memory c =
    let set = c.args.set.now in
    let xs : List Range = parts_of c.args.place.now.range c.ranges-2.result.now in
    let parts : ArePartsOf set c.args.place.now.range.segment c.args.place.now.range.offset c.args.place.now.range.len (length c.args.image.now) xs =
    parts_are set c.ranges-2.result.now c.args.place.now.range.segment c.args.place.now.range.offset c.args.place.now.range.len (length c.args.image.now) xs xs c.ranges-2.ensures.runs c.ranges-2.ensures.canonical (omega (arith, c.requires.within)) refl refl in
    on_err_weaker c.keep_outside-done.result (misses_some set xs c.args.place.now.range.segment c.args.place.now.range.offset c.args.place.now.range.len parts.outside parts.canonical) c.keep_outside-done.ensures.memory

pub returns-else-is_err-clause-kept : goal.returns-else-is_err-clause-kept
returns-else-is_err-clause-kept c =
    let parts = are c in
    let xs : List Range = parts_of c.args.place.now.range c.ranges-2.result.now in
    shown c (λ l. KeepsOld c.args.self.now c.args.set.now c.args.place.now.range.segment c.args.place.now.range.offset c.args.place.now.range.len (slice_index c.args.image.now) l) (record {
      first = keeps_first c.args.self.now c.args.image.now xs c.args.set.now c.args.place.now.range.segment c.args.place.now.range.offset c.args.place.now.range.len parts.outside parts.ends;
      fresh = keeps_bytes c.args.self.now c.args.image.now xs c.args.set.now c.args.place.now.range.segment c.args.place.now.range.offset c.args.place.now.range.len parts.outside parts.ends;
      others = keeps_others c.args.self.now c.args.image.now xs c.args.set.now c.args.place.now.range.segment c.args.place.now.range.offset c.args.place.now.range.len parts.outside parts.ends;
    })

pub returns-else-is_err-clause-count : goal.returns-else-is_err-clause-count
returns-else-is_err-clause-count c =
    let parts = are c in
    let xs : List Range = parts_of c.args.place.now.range c.ranges-2.result.now in
    shown c (λ l. (n : ℕ) × CountsOutside c.args.set.now c.args.place.now.range.segment c.args.place.now.range.offset c.args.place.now.range.len n × (bytes_kept l ≡ bytes_kept c.args.self.now + n))
    (total_len xs, (xs, parts.canonical, parts.outside, refl), bytes_with_copies c.args.self.now c.args.image.now xs parts.ends)

pub returns-else-is_err-clause-copies : goal.returns-else-is_err-clause-copies
returns-else-is_err-clause-copies c =
    let parts = are c in
    let xs : List Range = parts_of c.args.place.now.range c.ranges-2.result.now in
    shown c (λ l. AddsCopies c.args.self.now c.args.set.now c.args.place.now.range.segment c.args.place.now.range.offset c.args.place.now.range.len l)
    (xs, parts.canonical, parts.outside, copies_with_all c.args.self.now c.args.image.now xs parts.canonical parts.ends)

pub returns-else-is_err-clause-below : goal.returns-else-is_err-clause-below
returns-else-is_err-clause-below c =
    let parts = are c in
    shown c (λ l. (s bound : ℕ) → LiesBelow c.args.self.now s bound → (s ≡ c.args.place.now.range.segment → c.args.place.now.range.offset + c.args.place.now.range.len ≤ bound) → LiesBelow l s bound)
    (keeps_below c.args.self.now c.args.image.now (parts_of c.args.place.now.range c.ranges-2.result.now) c.args.set.now c.args.place.now.range.segment c.args.place.now.range.offset c.args.place.now.range.len parts.outside parts.ends)

-- what the copies of these parts take is what their positions need
needed : (old : List OldBytes) (image : List ℕ) (set xs : List Range) (s offset len : ℕ) → ArePartsOf set s offset len (length image) xs → TakeMemory (with_copies old image xs)
    → NeedsCopiesAbove 8 old set s offset len ⊎ NeedsBytesAbove 64 old set s offset len
needed old image set xs s offset len parts takes = elim takes [
  | inl many ↦ inl (xs, parts.canonical, parts.outside, omega (arith, many, copies_with_all old image xs parts.canonical parts.ends))
  | inr large ↦ inr (total_len xs, (xs, parts.canonical, parts.outside, refl), omega (arith, large, bytes_with_copies old image xs parts.ends))
]

pub returns-then-is_err-clause-needs : goal.returns-then-is_err-clause-needs
returns-then-is_err-clause-needs c =
    let set = c.args.set.now in
    let xs : List Range = parts_of c.args.place.now.range c.ranges-2.result.now in
    let parts : ArePartsOf set c.args.place.now.range.segment c.args.place.now.range.offset c.args.place.now.range.len (length c.args.image.now) xs =
    parts_are set c.ranges-2.result.now c.args.place.now.range.segment c.args.place.now.range.offset c.args.place.now.range.len (length c.args.image.now) xs xs c.ranges-2.ensures.runs c.ranges-2.ensures.canonical (omega (arith, c.requires.within)) refl refl in
    on_err_weaker c.keep_outside-done.result (needed c.args.self.now c.args.image.now set xs c.args.place.now.range.segment c.args.place.now.range.offset c.args.place.now.range.len parts) c.keep_outside-done.ensures.needs
