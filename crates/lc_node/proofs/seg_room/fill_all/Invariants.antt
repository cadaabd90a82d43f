use Rattle.std.proofs.Common.{◌≡◌, ℕ, ◌+◌, ◌<◌, ◌≤◌, length, Some, vec_len, vec_capacity}
use Rattle.std.specs.Prelude.{option_map, slice_get}
use Rattle.lc_node.specs.FreshSegment.{StandInOrder}
use Rattle.lc_node.specs.Rooms.{AreFilled}
use Rattle.lc_node.specs.Shares.{left_at}
use Rattle.lc_node.specs.declared.seg_room.SegRoom.{SegRoom}
use Rattle.lc_node.proofs.seg_room.fill_all.Given as goal

abbrev pub invariant-loop-place : goal.invariant-loop-place
invariant-loop-place g l = record {
  rooms_left : vec_len l.rooms + l.place ≡ vec_len l.initial.rooms;
  all_places : length l.pages ≡ length l.initial.pages;
  filled : vec_len l.fresh ≡ l.place;
  space : vec_capacity l.fresh ≡ vec_capacity l.initial.fresh;
  rooms : (k : ℕ) (room : SegRoom g.row.D.Denot) → slice_get l.rooms.items k ≡ Some room → slice_get l.initial.rooms.items (l.place + k) ≡ Some room;
  taken : (k : ℕ) → k < l.place → slice_get l.pages k ≡ option_map (left_at l.share.number l.share.nodes k) (slice_get l.initial.pages k);
  rest : (k : ℕ) → l.place ≤ k → slice_get l.pages k ≡ slice_get l.initial.pages k;
  in_order : StandInOrder l.fresh.items;
  done : AreFilled l.share.number l.share.nodes l.initial.rooms.items l.initial.pages l.fresh.items;
}
