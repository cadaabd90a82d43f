use Rattle.std.proofs.Common.{◌≡◌, ◌<◌, length, map, take, ap, ◌∙◌, arith}
use Rattle.std.proofs.lemmas.List.{take_all}
use Rattle.lc_rest.specs.declared.segment_part.SegmentPart.{SegmentPart}
use Rattle.lc_reading.proofs.Removed.{mapped_next, next_removed}
use Rattle.lc_record.proofs.ListLemmas.{left_some as some_left_over, left_more as rest_removed}
use Rattle.lc_reading.proofs.read_segments.ReadSegments.read.Goals as goal

pub remove-part-requires : goal.remove-part-requires
remove-part-requires g c =
    let all = c.args.parts.items in
    let few : c.loop.counter < length all = omega (arith, c.loop-test.true, c.len-end.ensures, c.args.parts.ok.0) in
    let some = some_left_over all c.loop.parts.items c.loop.counter c.loop.invariant.rest few in
    omega (arith, some, c.loop.parts.ok.0)

pub loop-preserved : goal.loop-preserved
loop-preserved g c =
    let all = c.args.parts.items in
    let n = c.loop.counter in
    let h = c.loop.invariant in
    let few : n < length all = omega (arith, c.loop-test.true, c.len-end.ensures, c.args.parts.ok.0) in
    let next = next_removed all c.loop.parts.items n c.remove-part.result h.rest few c.remove-part.ensures.value in
    record {
      rest = rest_removed all c.loop.parts.items c.remove-part.new.self.items n h.rest c.remove-part.ensures.items;
      tokens = mapped_next (λ (part : SegmentPart g.row.D.Denot). part.token) all n c.remove-part.result c.loop.tokens.items c.push.new.self.items next h.tokens c.in_ok-push.ensures.items;
      holders = mapped_next (λ (part : SegmentPart g.row.D.Denot). part.holder) all n c.remove-part.result c.loop.holders.items c.push-in-loop.new.self.items next h.holders c.in_ok-push-2.ensures.items;
      areas = mapped_next (λ (part : SegmentPart g.row.D.Denot). part.area) all n c.remove-part.result c.loop.areas.items c.push-in-loop-2.new.self.items next h.areas c.in_ok-push-3.ensures.items;
      room = omega (arith, h.room, c.in_ok-push-3.ensures.capacity);
    }

pub returns : goal.returns
returns g c =
    let all = c.args.parts.items in
    let n = c.loop.counter in
    let h = c.loop.invariant in
    let done : take n all ≡ all = take_all n all (omega (arith, c.loop-test.false, c.len-end.ensures, c.args.parts.ok.0)) in
    record {
      tokens = h.tokens ∙ ap (map (λ (part : SegmentPart g.row.D.Denot). part.token)) done;
      holders = h.holders ∙ ap (map (λ (part : SegmentPart g.row.D.Denot). part.holder)) done;
      areas = h.areas ∙ ap (map (λ (part : SegmentPart g.row.D.Denot). part.area)) done;
      room = h.room;
    }
