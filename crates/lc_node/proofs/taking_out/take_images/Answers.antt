use Rattle.std.proofs.Common.{rules, [], ◌∷◌, ◌++◌, take, set, sym, ap, subst, ◌∙◌, arith}
use Rattle.std.proofs.lemmas.List.{take_more}
use Rattle.lc_segments.specs.declared.lent.LentSlot.{LentSlot}
use Rattle.lc_segments.specs.Each.{Each}
use Rattle.lc_segments.specs.Sides.{IsOut}
use Rattle.lc_node.specs.Held.{lent_side}
use Rattle.lc_node.proofs.Walking.{walked}
use Rattle.lc_node.proofs.Backwards.{each_more}
use Rattle.lc_segments.specs.SegView.{SegView}
use Rattle.lc_segments.specs.declared.held.HeldSide.{HeldSide}
use Rattle.lc_log_side.proofs.BoxedSides.{at_place}
use Rattle.lc_node.proofs.taking_out.take_images.Goals as goal

pub loop-place-preserved : goal.loop-place-preserved
loop-place-preserved g c = let inv = c.loop-place.invariant in let n = c.loop-place.place in let sides = c.args.sides.now in let h : HeldSide _ = record { side = c.deref_mut-side.result.now; loan = c.held.inside.0.1.0 } in
    let more = c.loop-place-test.true in
    let w = walked lent_side sides c.loop-place.sides n h inv.sides (omega arith) (at_place c.loop-place.sides c.loop-place.place c.index-sides-place.result (record { side = c.deref_mut-side.result.now; loan = c.held.inside.0.1.0 }) (ap (λ (s : SegView _). record { side = s; loan = c.held.inside.0.1.0 }) c.deref_mut-side.ensures.value ∙ c.held.view_is ∙ sym c.index-sides-place.is) c.index-sides-place.is) in
    let lent = c.take_image-image.ensures.lent in let took = c.take_image-image.ensures in
    let slot : LentSlot = record { segment = c.segment-segment.result; number = c.number-number.result; image = c.take_image-image.result } in record {
      out = subst (λ l. Each IsOut l c.push_reserved.new.self.items) (sym (take_more sides n h (omega arith) ∙ ap (λ x. take n sides ++ x ∷ []) (sym w.0)))
          (subst (λ l. Each IsOut (take n sides ++ h ∷ []) l) (sym c.push_reserved.ensures.items)
          (each_more IsOut (take n sides) c.loop-place.slots.items h slot inv.out (record {
            segment = c.segment-segment.ensures.segment;
            number = c.number-number.ensures;
            image = took.image;
            shows = took.shows;
            free = took.free;
            first = c.segment-segment.ensures.first;
            last = c.segment-segment.ensures.last;
            short = took.short;
          })));
      sides = (λ k. set c.loop-place.sides n (record { side = lent k; loan = h.loan })) ∙ w.1;
      room = search rules;
    }
