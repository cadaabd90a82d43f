use Rattle.std.proofs.Common.{ap, arith}
use Rattle.lc_node.proofs.store_room.StoreRoom.new.Goals as goal

pub returns-in-Ok : goal.returns-in-Ok
returns-in-Ok g c = record {
  count = c.in-Ok.ensures.count;
  each = c.in-Ok.ensures.each;
  no_area = c.in_ok-places.ensures.items;
  space = omega (arith, ap (λ h. h.segments) c.geometry.ensures, c.in_ok-places.ensures.capacity);
  none_filled = c.in_ok-fresh.ensures.items;
  seats = omega (arith, c.in_ok-fresh.ensures.capacity);
}
