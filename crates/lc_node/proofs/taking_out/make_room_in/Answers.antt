use Rattle.std.proofs.Common.{rules, ◌+◌, refl, ap, ◌∙◌, arith, sym}
use Rattle.lc_node.specs.Sides.{HasMoreRoom, HasRoomForRuns}
use Rattle.lc_segments.specs.SegView.{SegView}
use Rattle.lc_segments.specs.declared.held.HeldSide.{HeldSide}
use Rattle.lc_log_side.proofs.BoxedSides.{at_place}
use Rattle.lc_log_side.proofs.Forwards.{Forwards, next, all_of}
use Rattle.lc_node.proofs.Forwards.{each_new}
use Rattle.lc_node.proofs.taking_out.make_room_in.Goals as goal

pub loop-place-preserved : goal.loop-place-preserved
loop-place-preserved g c = let h : HeldSide _ = record { side = c.deref_mut.result.now; loan = c.held.inside.0.1.0 } in
    next (λ h k. HasMoreRoom h k × HasRoomForRuns c.args.runs.now k) c.args.sides.now c.loop-place.sides c.loop-place.place h (record { side = c.make_room_for_runs.new.self; loan = h.loan }) c.loop-place.invariant
    (let more = c.loop-place-test.true in let long = c.loop-place.invariant.long in omega arith) (at_place c.loop-place.sides c.loop-place.place c.index-sides-place.result h (ap (λ (s : SegView _). record { side = s; loan = c.held.inside.0.1.0 }) c.deref_mut.ensures.value ∙ c.held.view_is ∙ sym c.index-sides-place.is) c.index-sides-place.is)
    (ap (λ (s : SegView _). record { side = s; loan = h.loan }) c.make_room_for_runs.ensures.same, search rules)

pub returns-clause-room : goal.returns-clause-room
returns-clause-room g c = each_new (λ h k. HasMoreRoom h k × HasRoomForRuns c.args.runs.now k) (HasRoomForRuns c.args.runs.now) c.args.sides.now c.loop-place.sides c.loop-place.place c.loop-place.invariant
    (let more = c.loop-place-test.false in let long = c.loop-place.invariant.long in omega arith) (λ x z r. r.1)

pub returns-in_err-make_room_for_runs-clause-same : goal.returns-in_err-make_room_for_runs-clause-same
returns-in_err-make_room_for_runs-clause-same g c = let h : HeldSide _ = record { side = c.deref_mut.result.now; loan = c.held.inside.0.1.0 } in let inv = c.loop-place.invariant in
    let f : Forwards HasMoreRoom c.args.sides.now c.loop-place.sides c.loop-place.place = record { long = inv.long; behind = inv.behind; done = λ k x z low x_at z_at. (inv.done k x z low x_at z_at).0 } in
    all_of HasMoreRoom c.args.sides.now _ (c.loop-place.place + 1)
    (next HasMoreRoom c.args.sides.now c.loop-place.sides c.loop-place.place h (record { side = c.make_room_for_runs.new.self; loan = h.loan }) f
    (let more = c.loop-place-test.true in let long = inv.long in omega arith) (at_place c.loop-place.sides c.loop-place.place c.index-sides-place.result h (ap (λ (s : SegView _). record { side = s; loan = c.held.inside.0.1.0 }) c.deref_mut.ensures.value ∙ c.held.view_is ∙ sym c.index-sides-place.is) c.index-sides-place.is)
    (ap (λ (s : SegView _). record { side = s; loan = h.loan }) c.make_room_for_runs.ensures.same)) (λ x. refl)

pub returns-clause-same : goal.returns-clause-same
returns-clause-same g c = let inv = c.loop-place.invariant in
    all_of HasMoreRoom c.args.sides.now c.loop-place.sides c.loop-place.place (record { long = inv.long; behind = inv.behind; done = λ k x z low x_at z_at. (inv.done k x z low x_at z_at).0 }) (λ x. refl)
