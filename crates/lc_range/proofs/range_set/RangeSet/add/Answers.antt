use Rattle.std.proofs.Common.{◌≡◌, ◌<◌, ◌≤◌, ℕ, length, ap, refl, sym, subst, ◌∙◌, arith}
use Rattle.lc_range.specs.RangeSet.{NeedsRunsAbove}
use Rattle.lc_range.specs.Walk.{merged}
use Rattle.lc_range.specs.declared.range.Range.{Range}
use Rattle.lc_range.proofs.AddLemmas.{adds, canonical, ok_gives, err_gives, needs_misses}
use Rattle.lc_range.proofs.RoomLemmas.{no_room_needs, room_needs}
use Rattle.lc_range.proofs.SetLemmas.{needs_above}
use Rattle.lc_range.proofs.range_set.RangeSet.add.Goals as goal
use Rattle.lc_range.proofs.range_set.RangeSet.add.Goals.{Then-is_err, Else-is_err}

abbrev the_range : ℕ → ℕ → ℕ → Range
the_range segment offset len = record { segment = segment; offset = offset; len = len }

pub put-requires-clause-some : goal.put-requires-clause-some
put-requires-clause-some c = omega (arith, c.if-len-eq0.false, ap (λ (r : Range). r.len) c.touched-place.ensures.range)

pub put-requires-clause-end : goal.put-requires-clause-end
put-requires-clause-end c = omega (arith, ap (λ (r : Range). r.len) c.touched-place.ensures.range, ap (λ (r : Range). r.offset) c.touched-place.ensures.range)

pub put-requires-clause-room : goal.put-requires-clause-room
put-requires-clause-room c = c.has_room.ensures.0 c.if-not-has_room.false

pub returns-then-not-has_room-clause-too_many : goal.returns-then-not-has_room-clause-too_many
returns-then-not-has_room-clause-too_many c =
    let range : Range = the_range c.args.segment c.args.offset c.args.len in
    let some : 1 ≤ range.len = omega (arith, c.if-len-eq0.false) in (
      λ e. (
        omega (arith, some),
        omega arith,
        no_room_needs c.args.self.now range c.touched-place.result c.touched-place.ensures.range c.ranges-2.ensures.canonical some c.has_room.result c.has_room.ensures c.if-not-has_room.true,
      ),
      λ h. refl,
    )

-- one run more, where there is no memory
needs_more : (c : Then-is_err) → (8 ≤ length c.args.self.now) × NeedsRunsAbove (length c.args.self.now) c.args.self.now c.args.segment c.args.offset c.args.len
needs_more c =
    let range : Range = the_range c.args.segment c.args.offset c.args.len in
    let some : 1 ≤ range.len = omega (arith, c.if-len-eq0.false) in
    let more = err_gives c.put.result (sym c.is_err.ensures.value ∙ c.if-is_err.true) c.put.ensures.memory in
    (more.0, needs_above (length c.args.self.now) range c.args.self.now some c.ranges-2.ensures.canonical (subst (λ (r : Range). length c.args.self.now < length (merged r c.args.self.now)) c.touched-place.ensures.range more.1))

pub returns-then-is_err-clause-too_many : goal.returns-then-is_err-clause-too_many
returns-then-is_err-clause-too_many c =
    let range : Range = the_range c.args.segment c.args.offset c.args.len in
    let some : 1 ≤ range.len = omega (arith, c.if-len-eq0.false) in (
      λ e. absurd cc,
      λ h. absurd (room_needs c.args.self.now range c.touched-place.result c.touched-place.ensures.range c.ranges-2.ensures.canonical some c.has_room.result c.has_room.ensures c.if-not-has_room.false h.2),
    )

pub returns-then-is_err-clause-no_memory : goal.returns-then-is_err-clause-no_memory
returns-then-is_err-clause-no_memory c = λ e. needs_more c

pub returns-then-is_err-clause-misses : goal.returns-then-is_err-clause-misses
returns-then-is_err-clause-misses c = λ e. needs_misses c.args.self.now c.args.segment c.args.offset c.args.len c.ranges-2.ensures.canonical (needs_more c).1

pub returns-then-is_err-clause-err : goal.returns-then-is_err-clause-err
returns-then-is_err-clause-err c = err_gives c.put.result (sym c.is_err.ensures.value ∙ c.if-is_err.true) c.put.ensures.err

-- the runs with the range
merged_is : (c : Else-is_err) → c.put.new.self ≡ merged (the_range c.args.segment c.args.offset c.args.len) c.args.self.now
merged_is c =
    ok_gives c.put.result (sym c.is_err.ensures.value ∙ c.if-is_err.false) c.put.ensures.ok ∙ ap (λ (r : Range). merged r c.args.self.now) c.touched-place.ensures.range

pub returns-clause-ok : goal.returns-clause-ok
returns-clause-ok c =
    adds c.args.self.now (the_range c.args.segment c.args.offset c.args.len) c.put.new.self c.ranges-2.ensures.canonical (omega (arith, c.if-len-eq0.false)) (merged_is c)

pub returns-clause-canonical : goal.returns-clause-canonical
returns-clause-canonical c =
    canonical c.args.self.now (the_range c.args.segment c.args.offset c.args.len) c.put.new.self c.ranges-2.ensures.canonical (omega (arith, c.if-len-eq0.false)) (merged_is c)

pub returns-clause-too_many : goal.returns-clause-too_many
returns-clause-too_many c =
    let range : Range = the_range c.args.segment c.args.offset c.args.len in
    let some : 1 ≤ range.len = omega (arith, c.if-len-eq0.false) in (
      λ e. absurd cc,
      λ h. absurd (room_needs c.args.self.now range c.touched-place.result c.touched-place.ensures.range c.ranges-2.ensures.canonical some c.has_room.result c.has_room.ensures c.if-not-has_room.false h.2),
    )
