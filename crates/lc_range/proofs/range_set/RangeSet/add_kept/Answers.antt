use Rattle.std.proofs.Common.{◌≡◌, ◌<◌, ◌⊎◌, ◌+◌, ◌≤◌, ℕ, List, [], length, is_err, ap, refl, sym, subst, ◌∙◌, inl, inr, arith}
use Rattle.std.specs.Prelude.{slice_index, Result, Ok, Err, IfErr}
use Rattle.std.proofs.lemmas.Bool.{eqb-true}
use Rattle.std.proofs.lemmas.List.{nil_from_length}
use Rattle.std.proofs.lemmas.Result.{on_ok_weaker}
use Rattle.lc_range.specs.declared.fault.RangeFault.{RangeFault}
use Rattle.lc_range.specs.declared.fault.RangeFault.TheVariants.{NoMemory, TooManyRanges}
use Rattle.lc_range.proofs.FirstLemmas.{first_kept, first_counted, first_copies, first_below, first_adds, never_above, first_needs, first_misses}
use Rattle.lc_range.specs.RangeSet.{AddsPositions, CountsOutside, MissesSome, NeedsRunsAbove}
use Rattle.lc_range.specs.Undo.{OldBytes, AddsCopies, KeepsOld, LiesBelow, NeedsBytesAbove, NeedsCopiesAbove, bytes_kept, first_bytes}
use Rattle.lc_range.specs.Walk.{merged}
use Rattle.lc_range.specs.declared.range.Range.{Range}
use Rattle.lc_range.proofs.AddLemmas.{adds, ok_gives, err_gives, needs_misses}
use Rattle.lc_range.proofs.RoomLemmas.{no_room_needs, room_needs}
use Rattle.lc_range.proofs.SetLemmas.{needs_above}
use Rattle.lc_range.proofs.range_set.RangeSet.add_kept.Goals as goal
use Rattle.lc_range.proofs.range_set.RangeSet.add_kept.Goals.{After-add_first, After-truncate}

abbrev the_range : ℕ → ℕ → ℕ → Range
the_range segment offset len = record { segment = segment; offset = offset; len = len }

-- the first range

none_set : (c : After-add_first) → c.args.self.now ≡ []
none_set c = sym c.ranges-2.ensures.runs ∙ nil_from_length c.ranges-2.result.now (eqb-true _ _ (sym c.is_empty.ensures ∙ c.if-is_empty.true))

none_kept : (c : After-add_first) → c.args.undo.now ≡ []
none_kept c = nil_from_length c.args.undo.now (sym c.copies.ensures ∙ c.if-copies-eq0.true)

pub returns-then-copies-eq0-clause-adds : goal.returns-then-copies-eq0-clause-adds
returns-then-copies-eq0-clause-adds c =
    let e = first_adds c.args.self.now c.args.undo.now c.args.image.now c.args.segment c.args.offset c.args.len (none_set c) (none_kept c) c.requires.some (omega (arith, c.requires.within)) in
    on_ok_weaker c.add_first.result (λ is. subst (λ (l : List Range). AddsPositions c.args.self.now c.args.segment c.args.offset c.args.len l) (sym is) e) c.add_first.ensures.adds

pub returns-then-copies-eq0-clause-kept : goal.returns-then-copies-eq0-clause-kept
returns-then-copies-eq0-clause-kept c =
    let e = first_kept c.args.self.now c.args.undo.now c.args.image.now c.args.segment c.args.offset c.args.len (none_set c) (none_kept c) c.requires.some (omega (arith, c.requires.within)) in
    on_ok_weaker c.add_first.result (λ is. subst (λ (l : List OldBytes). KeepsOld c.args.undo.now c.args.self.now c.args.segment c.args.offset c.args.len (slice_index c.args.image.now) l) (sym is) e) c.add_first.ensures.keeps

pub returns-then-copies-eq0-clause-count : goal.returns-then-copies-eq0-clause-count
returns-then-copies-eq0-clause-count c =
    let e = first_counted c.args.self.now c.args.undo.now c.args.image.now c.args.segment c.args.offset c.args.len (none_set c) (none_kept c) c.requires.some (omega (arith, c.requires.within)) in
    on_ok_weaker c.add_first.result
    (λ is. subst (λ (l : List OldBytes). (n : ℕ) × CountsOutside c.args.self.now c.args.segment c.args.offset c.args.len n × (bytes_kept l ≡ bytes_kept c.args.undo.now + n)) (sym is) e)
    c.add_first.ensures.keeps

pub returns-then-copies-eq0-clause-copies : goal.returns-then-copies-eq0-clause-copies
returns-then-copies-eq0-clause-copies c =
    let e = first_copies c.args.self.now c.args.undo.now c.args.image.now c.args.segment c.args.offset c.args.len (none_set c) (none_kept c) c.requires.some (omega (arith, c.requires.within)) in
    on_ok_weaker c.add_first.result (λ is. subst (λ (l : List OldBytes). AddsCopies c.args.undo.now c.args.self.now c.args.segment c.args.offset c.args.len l) (sym is) e) c.add_first.ensures.keeps

pub returns-then-copies-eq0-clause-below : goal.returns-then-copies-eq0-clause-below
returns-then-copies-eq0-clause-below c =
    let e = first_below c.args.self.now c.args.undo.now c.args.image.now c.args.segment c.args.offset c.args.len (none_set c) (none_kept c) c.requires.some (omega (arith, c.requires.within)) in
    on_ok_weaker c.add_first.result
    (λ is. subst (λ (l : List OldBytes). (s bound : ℕ) → LiesBelow c.args.undo.now s bound → (s ≡ c.args.segment → c.args.offset + c.args.len ≤ bound) → LiesBelow l s bound) (sym is) e)
    c.add_first.ensures.keeps

pub returns-then-copies-eq0-clause-front : goal.returns-then-copies-eq0-clause-front
returns-then-copies-eq0-clause-front c =
    let none = none_kept c in
    on_ok_weaker c.add_first.result (λ is. ap (λ (l : List OldBytes). first_bytes (bytes_kept l) c.add_first.new.undo) none ∙ sym none) c.add_first.ensures.keeps

pub returns-then-copies-eq0-clause-too_many : goal.returns-then-copies-eq0-clause-too_many
returns-then-copies-eq0-clause-too_many c = (
  λ e. absurd (not_many c.add_first.result c.add_first.ensures.faults e),
  λ needs. absurd (never_above c.args.self.now c.args.undo.now c.args.image.now c.args.segment c.args.offset c.args.len (none_set c) (none_kept c) c.requires.some (omega (arith, c.requires.within)) 64 (omega arith) needs),
)
  where
    not_many : (r : Result Unit RangeFault) → IfErr r (λ fault. fault ≡ NoMemory) → r ≡ Err TooManyRanges → ⊥
    not_many (Ok x) is e = absurd cc
    not_many (Err x) is e = absurd cc

pub returns-then-copies-eq0-clause-no_memory : goal.returns-then-copies-eq0-clause-no_memory
returns-then-copies-eq0-clause-no_memory c = λ e.
    first_misses c.args.self.now c.args.undo.now c.args.image.now c.args.segment c.args.offset c.args.len (none_set c) (none_kept c) c.requires.some (omega (arith, c.requires.within))

pub returns-then-copies-eq0-clause-needs : goal.returns-then-copies-eq0-clause-needs
returns-then-copies-eq0-clause-needs c = λ e.
    inr (inr (first_needs c.args.self.now c.args.undo.now c.args.image.now c.args.segment c.args.offset c.args.len (none_set c) (none_kept c) c.requires.some (omega (arith, c.requires.within))
    (err_gives c.add_first.result (ap is_err e) c.add_first.ensures.needs)))

-- one after others

pub keep_at-requires-clause-within : goal.keep_at-requires-clause-within
keep_at-requires-clause-within c =
    omega (arith, c.requires.within, ap (λ (r : Range). r.len) c.touched-place.ensures.range, ap (λ (r : Range). r.offset) c.touched-place.ensures.range)

pub put-requires-clause-some : goal.put-requires-clause-some
put-requires-clause-some c = omega (arith, c.requires.some, ap (λ (r : Range). r.len) c.touched-place.ensures.range)

pub put-requires-clause-end : goal.put-requires-clause-end
put-requires-clause-end c =
    omega (arith, c.requires.within, ap (λ (r : Range). r.len) c.touched-place.ensures.range, ap (λ (r : Range). r.offset) c.touched-place.ensures.range)

pub put-requires-clause-room : goal.put-requires-clause-room
put-requires-clause-room c = c.has_room.ensures.0 c.if-not-has_room.false

pub returns-then-not-has_room-clause-too_many : goal.returns-then-not-has_room-clause-too_many
returns-then-not-has_room-clause-too_many c =
    let range : Range = the_range c.args.segment c.args.offset c.args.len in (
      λ e. no_room_needs c.args.self.now range c.touched-place.result c.touched-place.ensures.range c.ranges-2.ensures.canonical c.requires.some c.has_room.result c.has_room.ensures c.if-not-has_room.true,
      λ needs. refl,
    )

-- no memory for the copies

pub returns-then-is_err-clause-too_many : goal.returns-then-is_err-clause-too_many
returns-then-is_err-clause-too_many c =
    let range : Range = the_range c.args.segment c.args.offset c.args.len in (
      λ e. absurd cc,
      λ needs. absurd (room_needs c.args.self.now range c.touched-place.result c.touched-place.ensures.range c.ranges-2.ensures.canonical c.requires.some c.has_room.result c.has_room.ensures c.if-not-has_room.false needs),
    )

pub returns-then-is_err-clause-no_memory : goal.returns-then-is_err-clause-no_memory
returns-then-is_err-clause-no_memory c = λ e.
    subst (λ (r : Range). MissesSome c.args.self.now r.segment r.offset r.len) c.touched-place.ensures.range
    (err_gives c.keep_at.result (sym c.is_err.ensures.value ∙ c.if-is_err.true) c.keep_at.ensures.memory)

pub returns-then-is_err-clause-needs : goal.returns-then-is_err-clause-needs
returns-then-is_err-clause-needs c = λ e.
    inr (subst (λ (r : Range). NeedsCopiesAbove 8 c.args.undo.now c.args.self.now r.segment r.offset r.len ⊎ NeedsBytesAbove 64 c.args.undo.now c.args.self.now r.segment r.offset r.len) c.touched-place.ensures.range
    (err_gives c.keep_at.result (sym c.is_err.ensures.value ∙ c.if-is_err.true) c.keep_at.ensures.needs))

pub returns-then-is_err-clause-err_kept : goal.returns-then-is_err-clause-err_kept
returns-then-is_err-clause-err_kept c = err_gives c.keep_at.result (sym c.is_err.ensures.value ∙ c.if-is_err.true) c.keep_at.ensures.err

-- no memory for one run more

needs_more : (c : After-truncate) → (8 ≤ length c.args.self.now) × NeedsRunsAbove (length c.args.self.now) c.args.self.now c.args.segment c.args.offset c.args.len
needs_more c =
    let range : Range = the_range c.args.segment c.args.offset c.args.len in
    let more = err_gives c.put.result (sym c.is_err-2.ensures.value ∙ c.if-is_err-2.true) c.put.ensures.memory in
    (more.0, needs_above (length c.args.self.now) range c.args.self.now c.requires.some c.ranges-2.ensures.canonical (subst (λ (r : Range). length c.args.self.now < length (merged r c.args.self.now)) c.touched-place.ensures.range more.1))

pub returns-then-is_err-2-clause-too_many : goal.returns-then-is_err-2-clause-too_many
returns-then-is_err-2-clause-too_many c =
    let range : Range = the_range c.args.segment c.args.offset c.args.len in (
      λ e. absurd cc,
      λ needs. absurd (room_needs c.args.self.now range c.touched-place.result c.touched-place.ensures.range c.ranges-2.ensures.canonical c.requires.some c.has_room.result c.has_room.ensures c.if-not-has_room.false needs),
    )

pub returns-then-is_err-2-clause-no_memory : goal.returns-then-is_err-2-clause-no_memory
returns-then-is_err-2-clause-no_memory c = λ e. needs_misses c.args.self.now c.args.segment c.args.offset c.args.len c.ranges-2.ensures.canonical (needs_more c).1

pub returns-then-is_err-2-clause-needs : goal.returns-then-is_err-2-clause-needs
returns-then-is_err-2-clause-needs c = λ e. (let more = needs_more c in inl (more.1.0, more.1.1, more.1.2, omega (arith, more.0, more.1.3)))

pub returns-then-is_err-2-clause-err : goal.returns-then-is_err-2-clause-err
returns-then-is_err-2-clause-err c = err_gives c.put.result (sym c.is_err-2.ensures.value ∙ c.if-is_err-2.true) c.put.ensures.err

pub returns-then-is_err-2-clause-err_kept : goal.returns-then-is_err-2-clause-err_kept
returns-then-is_err-2-clause-err_kept c =
    c.truncate.ensures ∙ ap (λ (n : ℕ). first_bytes n c.keep_at.new.self) c.len-kept.ensures.bytes
    ∙ ok_gives c.keep_at.result (sym c.is_err.ensures.value ∙ c.if-is_err.false) c.keep_at.ensures.front

-- all is done

pub returns-clause-adds : goal.returns-clause-adds
returns-clause-adds c =
    let range : Range = the_range c.args.segment c.args.offset c.args.len in
    let is = ok_gives c.put.result (sym c.is_err-2.ensures.value ∙ c.if-is_err-2.false) c.put.ensures.ok ∙ ap (λ (r : Range). merged r c.args.self.now) c.touched-place.ensures.range in
    adds c.args.self.now range c.put.new.self c.ranges-2.ensures.canonical c.requires.some is

pub returns-clause-too_many : goal.returns-clause-too_many
returns-clause-too_many c =
    let range : Range = the_range c.args.segment c.args.offset c.args.len in (
      λ e. absurd cc,
      λ needs. absurd (room_needs c.args.self.now range c.touched-place.result c.touched-place.ensures.range c.ranges-2.ensures.canonical c.requires.some c.has_room.result c.has_room.ensures c.if-not-has_room.false needs),
    )

pub returns-clause-kept : goal.returns-clause-kept
returns-clause-kept c =
    subst (λ (r : Range). KeepsOld c.args.undo.now c.args.self.now r.segment r.offset r.len (slice_index c.args.image.now) c.keep_at.new.self) c.touched-place.ensures.range
    (ok_gives c.keep_at.result (sym c.is_err.ensures.value ∙ c.if-is_err.false) c.keep_at.ensures.kept)

pub returns-clause-count : goal.returns-clause-count
returns-clause-count c =
    subst (λ (r : Range). (n : ℕ) × CountsOutside c.args.self.now r.segment r.offset r.len n × (bytes_kept c.keep_at.new.self ≡ bytes_kept c.args.undo.now + n)) c.touched-place.ensures.range
    (ok_gives c.keep_at.result (sym c.is_err.ensures.value ∙ c.if-is_err.false) c.keep_at.ensures.count)

pub returns-clause-copies : goal.returns-clause-copies
returns-clause-copies c =
    subst (λ (r : Range). AddsCopies c.args.undo.now c.args.self.now r.segment r.offset r.len c.keep_at.new.self) c.touched-place.ensures.range
    (ok_gives c.keep_at.result (sym c.is_err.ensures.value ∙ c.if-is_err.false) c.keep_at.ensures.copies)

pub returns-clause-below : goal.returns-clause-below
returns-clause-below c =
    subst (λ (r : Range). (s bound : ℕ) → LiesBelow c.args.undo.now s bound → (s ≡ r.segment → r.offset + r.len ≤ bound) → LiesBelow c.keep_at.new.self s bound) c.touched-place.ensures.range
    (ok_gives c.keep_at.result (sym c.is_err.ensures.value ∙ c.if-is_err.false) c.keep_at.ensures.below)

pub returns-clause-front : goal.returns-clause-front
returns-clause-front c = ok_gives c.keep_at.result (sym c.is_err.ensures.value ∙ c.if-is_err.false) c.keep_at.ensures.front
