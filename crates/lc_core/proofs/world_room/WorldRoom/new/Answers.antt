use Rattle.std.proofs.Common.{◌≡◌, None, ap, ◌∙◌, arith}
use Rattle.std.specs.Prelude.{replicate}
use Rattle.lc_core.proofs.world_room.WorldRoom.new.Goals as goal

pub invariant_of-result : goal.invariant_of-result
invariant_of-result g c =
    let all : c.loop.counter ≡ c.args.geometry.segments = omega (arith, c.loop-test.false, c.loop.auto.counter-end) in
    record {
      count = c.in_ok-nodes.ensures.count;
      blank = c.in_ok-nodes.ensures.blank;
      none = c.loop.invariant ∙ ap (λ n. replicate n None) all;
      all_segments = c.in_ok-writes.ensures.count;
      rest = c.in_ok-writes.ensures.rest;
      no_segment = c.in_ok-segments.ensures.items;
      place = omega (arith, c.in_ok-segments.ensures.exact);
    }
