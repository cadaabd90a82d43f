use Rattle.std.proofs.Common.{arith}
use Rattle.lc_node.specs.Rooms.{IsRoomFor}
use Rattle.lc_node.specs.declared.node_room.NodeRoom.{NodeRoom}
use Rattle.lc_node.proofs.EachPlace.{each_more}
use Rattle.lc_node.proofs.store_room.rooms_for.Goals as goal

pub loop-preserved : goal.loop-preserved
loop-preserved g c =
    let inv = c.loop.invariant in
    record {
      count = omega (arith, c.push_reserved.ensures.len, inv.count);
      space = omega (arith, c.push_reserved.ensures.capacity, inv.space);
      each = each_more (λ _ (room : NodeRoom g.row.D.Denot). IsRoomFor c.args.recovered.now room) c.push_reserved.new.self.items c.loop.rooms.items c.in-Ok.room c.loop.counter
          c.push_reserved.ensures.items (omega (arith, inv.count, c.loop.rooms.ok.0)) inv.each c.in-Ok.ensures;
    }
