use Rattle.std.proofs.Common.{refl, ap, ◌∙◌, inl, arith, sym}
use Rattle.lc_node.specs.Sides.{IsRoomier, HasFewParts}
use Rattle.lc_segments.specs.SegView.{SegView}
use Rattle.lc_segments.specs.declared.held.HeldSide.{HeldSide}
use Rattle.lc_log_side.proofs.BoxedSides.{at_place}
use Rattle.lc_log_side.proofs.Forwards.{next, all_of}
use Rattle.lc_node.proofs.Forwards.{each_new}
use Rattle.lc_node.proofs.Stored.{roomier_of}
use Rattle.lc_node.proofs.taking_out.fold_grown_in.Goals as goal

pub loop-place-preserved : goal.loop-place-preserved
loop-place-preserved g c = let h : HeldSide _ = record { side = c.deref_mut.result.now; loan = c.held.inside.0.1.0 } in
    next (λ h k. IsRoomier h k × HasFewParts k) c.args.sides.now c.loop-place.sides c.loop-place.place h (record { side = c.fold_grown.new.self; loan = h.loan }) c.loop-place.invariant
    (let more = c.loop-place-test.true in let long = c.loop-place.invariant.long in omega arith) (at_place c.loop-place.sides c.loop-place.place c.index-sides-place.result h (ap (λ (s : SegView _). record { side = s; loan = c.held.inside.0.1.0 }) c.deref_mut.ensures.value ∙ c.held.view_is ∙ sym c.index-sides-place.is) c.index-sides-place.is)
    (roomier_of h c.fold_grown.new.self c.fold_grown.ensures.same c.fold_grown.ensures.grown, c.fold_grown.ensures.few)

pub returns-clause-few : goal.returns-clause-few
returns-clause-few g c = each_new (λ h k. IsRoomier h k × HasFewParts k) HasFewParts c.args.sides.now c.loop-place.sides c.loop-place.place c.loop-place.invariant
    (let more = c.loop-place-test.false in let long = c.loop-place.invariant.long in omega arith) (λ x z r. r.1)

pub returns-clause-same : goal.returns-clause-same
returns-clause-same g c = let inv = c.loop-place.invariant in
    all_of IsRoomier c.args.sides.now c.loop-place.sides c.loop-place.place (record { long = inv.long; behind = inv.behind; done = λ k x z low x_at z_at. (inv.done k x z low x_at z_at).0 }) (λ x. inl refl)
