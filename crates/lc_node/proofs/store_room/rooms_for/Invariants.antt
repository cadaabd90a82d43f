use Rattle.std.proofs.Common.{◌≡◌, ◌≤◌, vec_len, vec_capacity}
use Rattle.lc_node.specs.Rooms.{AreRoomsFor}
use Rattle.lc_node.proofs.store_room.rooms_for.Given as goal

abbrev pub invariant-loop : goal.invariant-loop
invariant-loop g l = record {
  count : vec_len l.rooms ≡ l.counter;
  space : l.nodes ≤ vec_capacity l.rooms;
  each : AreRoomsFor l.recovered l.rooms.items;
}
