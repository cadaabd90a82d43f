use Rattle.std.proofs.Common.{◌≡◌, ◌+◌, ◌≤◌, ℕ, Some, sym, ◌∙◌, arith}
use Rattle.std.specs.Prelude.{slice_get, slice_index_or}
use Rattle.std.proofs.lemmas.Option.{slice_get-get_or, slice_get_within}
use Rattle.lc_record.proofs.ListLemmas.{set_behind as behind_set}
use Rattle.lc_desk.specs.Blank.{IsOfSegment, StandAt}
use Rattle.lc_desk.specs.Fresh.{IsFreshSlot}
use Rattle.lc_desk.proofs.Furnishing.{each_set, front_set}
use Rattle.lc_desk.proofs.beginnings.fill_slots.Goals as goal

pub loop-place-preserved : goal.loop-place-preserved
loop-place-preserved g c =
    let r = c.args.recovered.now in
    let place = c.loop-place.place in
    let slots = c.loop-place.slots in
    let first = c.args.slots.now in
    let slot = slice_index_or slots place c.index-slots-place.result in
    let new = c.fill.new.self in
    let same : place ≤ place = omega arith in
    let there : slice_get slots place ≡ Some slot =
    slice_get-get_or slots place c.index-slots-place.result (omega (arith, c.loop-place-test.true, c.loop-place.auto.slots)) in
    let before : slice_get first place ≡ Some slot = sym (c.loop-place.invariant.behind place same) ∙ there in
    record {
      each = each_set (λ k s. IsOfSegment r.geometry (k + 1) s) slots place new c.loop-place.invariant.each c.fill.ensures.slot;
      front = front_set (λ k s. (node : ℕ) → StandAt r.geometry node first → IsFreshSlot r node (k + 1) s) slots place new c.loop-place.invariant.front
          (λ node stand. c.fill.ensures.fresh node (stand place slot before));
      behind = behind_set first slots place new c.loop-place.invariant.behind;
    }

pub returns-clause-fresh : goal.returns-clause-fresh
returns-clause-fresh g c = λ node stand k slot got.
    let within = slice_get_within c.loop-place.slots k slot got in
    c.loop-place.invariant.front k slot (omega (arith, within, c.loop-place.auto.slots, c.loop-place-test.false)) got node stand
