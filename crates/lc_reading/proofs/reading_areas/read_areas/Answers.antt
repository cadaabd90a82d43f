use Rattle.std.proofs.Common.{◌≡◌, ℕ, ◌<◌, ◌≤◌, Some, length, sym, subst, ◌∙◌, arith}
use Rattle.std.specs.Prelude.{slice_get, slice_index_or, slice_set}
use Rattle.std.specs.Global.{Vec}
use Rattle.std.proofs.lemmas.Option.{slice_get-get_or, slice_get_within, same_Some as same_some}
use Rattle.lc_record.proofs.ListLemmas.{each_push as each_pushed, set_behind as behind_set}
use Rattle.lc_reading.specs.AsRead.{IsAsRead}
use Rattle.lc_desk.specs.Places.{get_set_other, get_set_same}
use Rattle.lc_desk.proofs.Furnishing.{each_same}
use Rattle.lc_reading.proofs.reading_areas.read_areas.Goals as goal

pub loop-area-preserved : goal.loop-area-preserved
loop-area-preserved g c =
    let areas = c.loop-area.areas in
    let place = c.loop-area.area-index in
    let h = c.loop-area.invariant in
    let D = g.row.D.Denot in
    let same : place ≤ place = omega arith in
    let within : place < length areas = omega (arith, c.loop-area-test.true, c.loop-area.auto.areas) in
    let there = slice_get-get_or areas place c.area-item.result within in
    let first = c.args.areas.now in
    let count : length c.loop-area.read.items ≡ place = omega (arith, h.count, c.loop-area.read.ok.0) in
    let P = λ (k : ℕ) (bytes : Vec ℕ). (old new : D) → slice_get first k ≡ Some old → slice_get (slice_set areas place c.read_area.new.area) k ≡ Some new → IsAsRead g.D.Area old new bytes.items in
    let olds : (k : ℕ) (bytes : Vec ℕ) → slice_get c.loop-area.read.items k ≡ Some bytes → P k bytes = λ k bytes got old new was is.
    (let before = slice_get_within c.loop-area.read.items k bytes got in
    let other : k ≡ place → ⊥ = λ e. absurd (omega (arith, e, before, count)) in
    h.read k bytes got old new was (sym (get_set_other areas place k c.read_area.new.area other) ∙ is)) in
    let last : P place c.in_ok-read_area.field-0 = λ old new was is.
    (let first_is = same_some (slice_index_or areas place c.area-item.result) old (sym there ∙ h.behind place same ∙ was) in
    let last_is = same_some c.read_area.new.area new (sym (get_set_same areas place (slice_index_or areas place c.area-item.result) c.read_area.new.area there) ∙ is) in
    subst (λ (x : D). IsAsRead g.D.Area old x c.in_ok-read_area.field-0.items) last_is
    (subst (λ (x : D). IsAsRead g.D.Area x c.read_area.new.area c.in_ok-read_area.field-0.items) first_is c.in_ok-read_area.ensures.read)) in
    record {
      count = omega (arith, h.count, c.push_reserved.ensures.len);
      room = omega (arith, h.room, c.push_reserved.ensures.capacity);
      behind = behind_set first areas place c.read_area.new.area h.behind;
      read = each_same P _ _ c.push_reserved.ensures.items (each_pushed P c.loop-area.read.items c.in_ok-read_area.field-0 olds (subst (λ (n : ℕ). P n c.in_ok-read_area.field-0) (sym count) last));
    }

pub returns-clause-read : goal.returns-clause-read
returns-clause-read g c = λ k old new bytes was is got. c.loop-area.invariant.read k bytes got old new was is

pub returns-clause-device : goal.returns-clause-device
returns-clause-device g c = λ e. absurd cc
