use Rattle.std.proofs.Common.{◌≡◌, ℕ, ◌+◌, ◌≤◌, Some, vec_len, vec_capacity}
use Rattle.std.specs.Prelude.{slice_get}
use Rattle.lc_node.specs.Rooms.{IsRoomOf}
use Rattle.lc_node.specs.declared.seg_room.SegRoom.{SegRoom}
use Rattle.lc_node.proofs.seg_room.rooms_of.Given as goal

abbrev pub invariant-loop-place : goal.invariant-loop-place
invariant-loop-place g l = record {
  count : vec_len l.rooms ≡ l.place;
  space : l.recovered.geometry.segments ≤ vec_capacity l.rooms;
  each : (place : ℕ) (room : SegRoom g.row.D.Denot) → slice_get l.rooms.items place ≡ Some room → IsRoomOf l.recovered (place + 1) room;
}
