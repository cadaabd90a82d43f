use Rattle.std.proofs.Common.{sym, ap, ◌∙◌, arith}
use Rattle.std.proofs.lemmas.Option.{slice_get_within}
use Rattle.lc_segments.specs.Each.{Each}
use Rattle.lc_node.specs.Sides.{IsFoldedSide}
use Rattle.lc_log_side.specs.Truncates.{IsSameHeld}
use Rattle.lc_segments.specs.declared.held.HeldSide.{HeldSide}
use Rattle.lc_log_side.proofs.Forwards.{next}
use Rattle.lc_node.proofs.PagesWritten.{still_held}
use Rattle.lc_segments.proofs.Slots.{each_map}
use Rattle.lc_segments.specs.SegView.{SegView}
use Rattle.lc_log_side.proofs.BoxedSides.{at_place}
use Rattle.lc_node.proofs.held.Held.fold.Goals as goal

pub loop-place-preserved : goal.loop-place-preserved
loop-place-preserved g c = let h : HeldSide _ = record { side = c.deref_mut.result.now; loan = c.held.inside.0.1.0 } in
    next IsFoldedSide c.args.self.now.sides.items c.loop-place.self.sides.items c.loop-place.place h (record { side = c.fold.new.self; loan = h.loan }) c.loop-place.invariant
    (let more = c.loop-place-test.true in let len = c.len-place-end.ensures in let ok = c.args.self.now.sides.ok.0 in let long = c.loop-place.invariant.long in omega arith) (at_place c.loop-place.self.sides.items c.loop-place.place c.index_mut-held.result.now (record { side = c.deref_mut.result.now; loan = c.held.inside.0.1.0 }) (ap (λ (s : SegView _). record { side = s; loan = c.held.inside.0.1.0 }) c.deref_mut.ensures.value ∙ c.held.view_is) c.index_mut-held.ensures.value)
    (ap (λ s. record h { side = s }) c.fold.ensures.folded)

folded_all : goal.returns-clause-folded
folded_all g c = let f = c.loop-place.invariant in record {
  long = f.long;
  each = λ k x z x_at z_at.
      (let within = slice_get_within c.loop-place.self.sides.items k z z_at in
      let whole = c.loop-place-test.false in let len = c.len-place-end.ensures in let ok = c.args.self.now.sides.ok.0 in let long = f.long in
      f.done k x z (omega arith) x_at z_at);
}

pub returns-clause-folded : goal.returns-clause-folded
returns-clause-folded g c = folded_all g c

pub returns-clause-segments : goal.returns-clause-segments
returns-clause-segments g c = each_map IsFoldedSide (λ (h : HeldSide _). h.side.segment) (λ (h : HeldSide _). h.side.segment) c.args.self.now.sides.items c.loop-place.self.sides.items (folded_all g c) (λ h z is. ap (λ (x : HeldSide _). x.side.segment) is)

pub returns-clause-held : goal.returns-clause-held
returns-clause-held g c = let f = c.loop-place.invariant in
    let same : Each IsSameHeld c.args.self.now.sides.items c.loop-place.self.sides.items = record {
      long = f.long;
      each = λ k h z h_at z_at.
          (let within = slice_get_within c.loop-place.self.sides.items k z z_at in
          let whole = c.loop-place-test.false in let len = c.len-place-end.ensures in let ok = c.args.self.now.sides.ok.0 in let long = f.long in
          let is : IsFoldedSide h z = f.done k h z (omega arith) h_at z_at in
          (is ∙ sym (ap (λ (x : HeldSide _). record h { side = x.side }) is), ap (λ (x : HeldSide _). x.side.segment) is, ap (λ (x : HeldSide _). x.side.image) is));
    } in
    λ node all. still_held node c.args.self.now.sides.items c.loop-place.self.sides.items same all
