use Rattle.std.proofs.Common.{◌≡◌, ◌+◌, ◌-◌, ◌≤◌, ◌<◌, ◌∙◌, ◌∷◌, ◌++◌, [], ℕ, List, Bool, true, false, Some, length, take, ap, sym, refl, subst, arith, slice_index_or, slice_set}
use Rattle.std.specs.Prelude.{slice_get}
use Rattle.std.proofs.lemmas.Bool.{both_ways}
use Rattle.std.proofs.lemmas.List.{take_all}
use Rattle.std.proofs.lemmas.Option.{slice_get-get_or as got}
use Rattle.lc_range.specs.declared.range.Range.{Range}
use Rattle.lc_desk.specs.Counts.{CountsAll, names}
use Rattle.lc_desk.specs.declared.segment_copy.SegmentCopy.{SegmentCopy}
use Rattle.lc_desk.specs.declared.here.Here.{Here}
use Rattle.lc_desk.proofs.Counting.{CountsSome, Outcome, range_skipped, range_done, first_range, next_range, the_slot, outcome_touched, outcome_left, names_before, none_done, take_next}
use Rattle.lc_desk.proofs.here.Here.count.Goals.{then-range-segment, else-range-segment, then-counted, else-counted}
use Rattle.lc_desk.proofs.here.Here.count.Goals as goal

abbrev range_at : List Range → ℕ → Range
range_at ranges k = slice_index_or ranges k (record { segment = 0; offset = 0; len = 0 })

next_done : (ranges : List Range) (k segment : ℕ) (counted : Bool) (old now : List SegmentCopy) → k < length ranges
    → CountsSome (take k ranges ++ range_at ranges k ∷ []) segment counted old now → CountsSome (take (k + 1) ranges) segment counted old now
next_done ranges k segment counted old now lt h =
    subst (λ (done : List Range). CountsSome done segment counted old now) (sym (take_next ranges k (range_at ranges k) (got ranges k _ lt))) h

pub loop-range-preserved-then-not-has_slot : goal.loop-range-preserved-then-not-has_slot
loop-range-preserved-then-not-has_slot c =
    let h = c.loop-range.invariant.0 in (
      next_done c.args.ranges.now c.loop-range.range-index _ _ _ _ c.loop-range-test.true
          (range_skipped _ (range_at c.args.ranges.now c.loop-range.range-index) _ _ _ _ h
          (λ some few. both_ways _ c.if-not-has_slot.true (c.has_slot.ensures.1 (some, omega (arith, few, h.all.same_length))))),
      c.loop-range.invariant.1,
    )

module _ (c : goal.Joined-counted) where
  abbrev r : Range
  r = range_at c.args.ranges.now c.loop-range.range-index

  abbrev k : ℕ
  k = r.segment - 1

  abbrev done : List Range
  done = take c.loop-range.range-index c.args.ranges.now

  abbrev h : CountsSome done c.loop-range.segment c.loop-range.counted c.args.self.now.slots.items c.loop-range.self.slots.items
  h = c.loop-range.invariant.0

  here : (1 ≤ r.segment) × (r.segment ≤ length c.loop-range.self.slots.items)
  here = let is = c.has_slot.ensures.0 c.if-not-has_slot.false in (is.0, omega (arith, is.1))

  is : r.segment ≡ k + 1
  is = omega (arith, here.0)

  before : (s : ℕ) → names s done ≡ true → s ≤ r.segment
  before = names_before c.args.ranges.now c.loop-range.range-index r c.requires.canonical (got c.args.ranges.now c.loop-range.range-index _ c.loop-range-test.true)

  abbrev mid : SegmentCopy
  mid = c.index_mut-slot.result.now

  mid_is : slice_get c.loop-range.self.slots.items k ≡ Some mid
  mid_is = got c.loop-range.self.slots.items k mid (omega (arith, here)) ∙ ap (λ (s : SegmentCopy). Some s) (sym c.index_mut-slot.ensures.value)

  abbrev old : SegmentCopy
  old = (the_slot done r c.loop-range.segment c.loop-range.counted c.args.self.now.slots.items c.loop-range.self.slots.items h before k is mid mid_is).0

  outcome : Outcome (k + 1) done c.if-range-segment.counted old c.if-range-segment.slot
  outcome = elim c.if-range-segment.branch [
    | then-range-segment w ↦
        subst (λ (s : SegmentCopy). Outcome (k + 1) done c.if-range-segment.counted old s) (sym w.slot-is)
        (subst (λ (b : Bool). Outcome (k + 1) done b old w.count-counted.new.self) (sym w.counted-is)
        (first_range done r c.loop-range.segment c.loop-range.counted c.args.self.now.slots.items c.loop-range.self.slots.items h before k is mid mid_is
        w.count-counted.new.self w.count-counted.result w.if-range-segment.true w.count-counted.ensures))
    | else-range-segment w ↦
        subst (λ (s : SegmentCopy). Outcome (k + 1) done c.if-range-segment.counted old s) (sym w.slot-is)
        (subst (λ (b : Bool). Outcome (k + 1) done b old mid) (sym w.counted-is)
        (next_range done r c.loop-range.segment c.loop-range.counted c.args.self.now.slots.items c.loop-range.self.slots.items h before k is mid mid_is w.if-range-segment.false))
  ]

  number : c.if-range-segment.segment ≡ r.segment
  number = elim c.if-range-segment.branch [
    | then-range-segment w ↦ w.segment-is
    | else-range-segment w ↦ w.segment-is ∙ sym w.if-range-segment.false
  ]

  abbrev Kept : Here → Type 0
  Kept self =
      CountsSome (take (c.loop-range.range-index + 1) c.args.ranges.now) c.if-range-segment.segment c.if-range-segment.counted c.args.self.now.slots.items self.slots.items
      × (self.spare ≡ c.args.self.now.spare)

  whole : (new : SegmentCopy) → Outcome (k + 1) (done ++ r ∷ []) c.if-range-segment.counted old new
      → CountsSome (take (c.loop-range.range-index + 1) c.args.ranges.now) c.if-range-segment.segment c.if-range-segment.counted c.args.self.now.slots.items (slice_set c.loop-range.self.slots.items k new)
  whole new result =
      subst (λ (s : ℕ). CountsSome (take (c.loop-range.range-index + 1) c.args.ranges.now) s c.if-range-segment.counted c.args.self.now.slots.items (slice_set c.loop-range.self.slots.items k new)) (sym number)
      (next_done c.args.ranges.now c.loop-range.range-index _ _ _ _ c.loop-range-test.true
      (range_done done r c.loop-range.segment c.loop-range.counted c.args.self.now.slots.items c.loop-range.self.slots.items h before k is mid mid_is new c.if-range-segment.counted result))

pub loop-range-preserved : goal.loop-range-preserved
loop-range-preserved c = elim c.if-counted.branch [
  | then-counted v ↦
      subst (Kept c) (sym v.self-is) (
        whole c v.touch.new.self
            (outcome_touched (k c + 1) (done c) (r c) (old c) c.if-range-segment.slot v.touch.new.self (is c) c.if-range-segment.counted v.if-counted.true (outcome c) v.touch.ensures),
        c.loop-range.invariant.1,
      )
  | else-counted v ↦
      subst (Kept c) (sym v.self-is) (
        whole c c.if-range-segment.slot (outcome_left (k c + 1) (done c) (r c) (old c) c.if-range-segment.slot c.if-range-segment.counted v.if-counted.false (outcome c)),
        c.loop-range.invariant.1,
      )
]

pub loop-range-init : goal.loop-range-init
loop-range-init c = (none_done false c.args.self.now.slots.items, refl)

pub returns-clause-counts : goal.returns-clause-counts
returns-clause-counts c =
    let all : take c.loop-range.range-index c.args.ranges.now ≡ c.args.ranges.now = take_all c.loop-range.range-index c.args.ranges.now c.loop-range-test.false in
    subst (λ (done : List Range). CountsAll done c.args.self.now.slots.items c.loop-range.self.slots.items) all c.loop-range.invariant.0.all
