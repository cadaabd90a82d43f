use Rattle.std.proofs.Common.{◌≡◌, ◌<◌, length, sym, ap, subst, ◌∙◌, arith}
use Rattle.lc_segments.specs.Sides.{Counts, MayCount, part_for}
use Rattle.lc_node.specs.Sides.{CountsRuns}
use Rattle.lc_segments.specs.declared.lent.LentSlot.{LentSlot}
use Rattle.lc_segments.specs.SegView.{SegView}
use Rattle.lc_segments.specs.declared.held.HeldSide.{HeldSide}
use Rattle.lc_log_side.proofs.BoxedSides.{at_place}
use Rattle.lc_log_side.proofs.Backwards.{got_at}
use Rattle.lc_node.proofs.Onwards.{all_onward, onward, untouched}
use Rattle.lc_node.proofs.CountedSides.{counts_side}
use Rattle.lc_node.proofs.taking_out.count_runs.Goals as goal

pub count_runs-requires : goal.count_runs-requires
count_runs-requires g c = let h : HeldSide _ = record { side = c.deref_mut.result.now; loan = c.held.inside.0.1.0 } in let slot : LentSlot = c.index-slots-place.result in
    let within : c.loop-place.place < length c.loop-place.sides = (let more = c.loop-place-test.true in let long = c.loop-place.invariant.long in omega arith) in
    let slots : c.loop-place.place < length c.args.slots.now = (let long = c.loop-place.invariant.long in let beside = c.requires.can.long in omega arith) in
    let side_at = untouched (CountsRuns c.args.runs.now) c.args.sides.now c.loop-place.sides c.args.slots.now c.loop-place.place h c.loop-place.invariant within (at_place c.loop-place.sides c.loop-place.place c.index-sides-place.result h (ap (λ (s : SegView _). record { side = s; loan = c.held.inside.0.1.0 }) c.deref_mut.ensures.value ∙ c.held.view_is ∙ sym c.index-sides-place.is) c.index-sides-place.is) in
    let may = c.requires.can.each c.loop-place.place h slot side_at (got_at c.args.slots.now c.loop-place.place slot c.index-slots-place.is slots) in
    let bytes : c.bytes.result.now ≡ slot.image.bytes.items = c.bytes.ensures ∙ ap (λ (s : LentSlot). s.image.bytes.items) (sym c.index-slots-place.is) in
    subst (λ l. MayCount c.args.runs.now l c.deref_mut.result.now) (sym bytes) may

pub loop-place-preserved : goal.loop-place-preserved
loop-place-preserved g c = let h : HeldSide _ = record { side = c.deref_mut.result.now; loan = c.held.inside.0.1.0 } in let slot : LentSlot = c.index-slots-place.result in
    let within : c.loop-place.place < length c.loop-place.sides = (let more = c.loop-place-test.true in let long = c.loop-place.invariant.long in omega arith) in
    let slots : c.loop-place.place < length c.args.slots.now = (let long = c.loop-place.invariant.long in let beside = c.requires.can.long in omega arith) in
    let bytes : c.bytes.result.now ≡ slot.image.bytes.items = c.bytes.ensures ∙ ap (λ (s : LentSlot). s.image.bytes.items) (sym c.index-slots-place.is) in
    let counts = subst (λ l. Counts (part_for c.args.runs.now l c.deref_mut.result.now) c.deref_mut.result.now c.count_runs.new.self) bytes c.count_runs.ensures in
    onward (CountsRuns c.args.runs.now) c.args.sides.now c.loop-place.sides c.args.slots.now c.loop-place.place h slot (record { side = c.count_runs.new.self; loan = h.loan }) c.loop-place.invariant within (at_place c.loop-place.sides c.loop-place.place c.index-sides-place.result h (ap (λ (s : SegView _). record { side = s; loan = c.held.inside.0.1.0 }) c.deref_mut.ensures.value ∙ c.held.view_is ∙ sym c.index-sides-place.is) c.index-sides-place.is)
    (got_at c.args.slots.now c.loop-place.place slot c.index-slots-place.is slots)
    (counts_side h c.count_runs.new.self (part_for c.args.runs.now slot.image.bytes.items h.side) counts)

pub returns : goal.returns
returns g c = record {
  counted = all_onward (CountsRuns c.args.runs.now) c.args.sides.now c.loop-place.sides c.args.slots.now c.loop-place.place c.loop-place.invariant
      (let more = c.loop-place-test.false in let long = c.loop-place.invariant.long in omega arith) c.requires.can.long;
}
