use Rattle.std.proofs.Common.{◌≡◌, ◌<◌, ◌++◌, ◌∷◌, [], List, Some, length, map, take, sym, ap, ◌∙◌, arith, append_assoc}
use Rattle.std.specs.Prelude.{slice_get}
use Rattle.lc_rest.specs.declared.segment_part.SegmentPart.{SegmentPart}
use Rattle.lc_record.proofs.ListLemmas.{left_first as next_is, left_more}
use Rattle.lc_segments.specs.LeftBy.{IsSettledPart, token_sent}
use Rattle.lc_node.proofs.FromFront.{mapped_more}
use Rattle.lc_node.proofs.Joined.{all_more}
use Rattle.lc_cluster.proofs.coming_to_rest.add_travelling.Goals as goal

pub loop-preserved : goal.loop-preserved
loop-preserved g c =
    let inv = c.loop.invariant in
    let all = c.args.journeys.items in
    let n = c.loop.counter in
    let old = c.args.tokens.now.items in
    let some : n < length all = omega (arith, c.loop-test.true, c.len-end.ensures, c.args.journeys.ok.0) in
    let next : slice_get all n ≡ Some c.remove-journey.result = next_is all c.loop.journeys.items n c.remove-journey.result inv.left some c.remove-journey.ensures.value in
    let pushed = c.push_reserved.ensures.items in
    record {
      left = left_more all c.loop.journeys.items c.remove-journey.new.self.items n inv.left c.remove-journey.ensures.items;
      count = omega (arith, c.push_reserved.ensures.len, inv.count);
      fit = omega (arith, c.push_reserved.ensures.capacity, inv.fit);
      tokens = pushed ∙ ((λ k. inv.tokens k ++ c.into_part.ensures.part k ∷ []) ∙ (append_assoc old (map token_sent (take n all)) (token_sent c.remove-journey.result ∷ [])
          ∙ ap (λ (l : List (SegmentPart g.row.D.Denot)). old ++ l) (sym (mapped_more token_sent all n c.remove-journey.result next))));
      settled = all_more (IsSettledPart g.D.Area) c.push_reserved.new.self.items c.loop.tokens.items c.into_part.result pushed inv.settled c.into_part.ensures.settled;
    }
