use Rattle.std.proofs.Common.{◌+◌, arith, ap}
use Rattle.lc_node.specs.Rooms.{IsRoomOf}
use Rattle.lc_node.specs.declared.seg_room.SegRoom.{SegRoom}
use Rattle.lc_node.proofs.EachPlace.{each_more, each_none}
use Rattle.lc_node.proofs.seg_room.rooms_of.Goals as goal

pub loop-place-init : goal.loop-place-init
loop-place-init g c = record {
  count = c.in_ok-rooms.ensures.len;
  space = omega (arith, c.in_ok-rooms.ensures.capacity, ap (λ h. h.segments) c.geometry-segments.ensures);
  each = each_none (λ k (room : SegRoom g.row.D.Denot). IsRoomOf c.args.recovered.now (k + 1) room) c.in_ok-rooms.rooms.items c.in_ok-rooms.ensures.items;
}

pub push_reserved-requires : goal.push_reserved-requires
push_reserved-requires g c =
    omega (arith, c.loop-place.invariant.count, c.loop-place.invariant.space, c.loop-place-test.true, ap (λ h. h.segments) c.geometry-segments.ensures)

pub loop-place-preserved : goal.loop-place-preserved
loop-place-preserved g c =
    let inv = c.loop-place.invariant in
    record {
      count = omega (arith, c.push_reserved.ensures.len, inv.count);
      space = omega (arith, c.push_reserved.ensures.capacity, inv.space);
      each = each_more (λ k (room : SegRoom g.row.D.Denot). IsRoomOf c.args.recovered.now (k + 1) room) c.push_reserved.new.self.items c.loop-place.rooms.items c.in-Ok.room c.loop-place.place
          c.push_reserved.ensures.items (omega (arith, inv.count, c.loop-place.rooms.ok.0)) inv.each c.in-Ok.ensures;
    }

pub returns-clause-count : goal.returns-clause-count
returns-clause-count g c =
    omega (arith, c.loop-place.invariant.count, c.loop-place.auto.place-end, c.loop-place-test.false, ap (λ h. h.segments) c.geometry-segments.ensures)

pub returns-clause-each : goal.returns-clause-each
returns-clause-each g c = c.loop-place.invariant.each
