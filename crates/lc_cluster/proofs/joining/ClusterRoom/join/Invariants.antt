use Rattle.std.proofs.Common.{◌≡◌, ◌≤◌, ◌+◌, ◌++◌, ℕ, false, All, Some, vec_len, vec_capacity}
use Rattle.std.specs.Prelude.{slice_get}
use Rattle.lc_stage.specs.declared.seats.CommitSeat.{CommitSeat as Seat}
use Rattle.lc_cluster.specs.Keys.{HasOneKey, HasOwnKey, wired_by, wired_in}
use Rattle.lc_cluster.specs.declared.member.Member.{Member}
use Rattle.lc_node.specs.declared.opening.OpenedNode.{OpenedNode}
use Rattle.lc_cluster.proofs.joining.ClusterRoom.join.Given as goal

abbrev pub invariant-loop : goal.invariant-loop
invariant-loop g l = record {
  nodes_left : vec_len l.nodes + l.counter ≡ vec_len l.fn.nodes;
  posts_left : vec_len l.posts + l.counter ≡ vec_len l.fn.nodes;
  member_count : vec_len l.members ≡ l.counter;
  seat_count : vec_len l.seats ≡ l.counter;
  members_fit : vec_len l.fn.nodes ≤ vec_capacity l.members;
  seats_fit : vec_len l.fn.nodes ≤ vec_capacity l.seats;
  keys : wired_by l.members.items ++ wired_in l.posts.items ≡ wired_in l.fn.self.posts.items;
  one_key : All HasOneKey l.posts.items;
  own_key : All HasOwnKey l.members.items;
  nodes : (k : ℕ) (opened : OpenedNode g.row.D.Denot) → slice_get l.nodes.items k ≡ Some opened → slice_get l.fn.nodes.items (l.counter + k) ≡ Some opened;
  sized : (place : ℕ) (member : Member g.row.D.Denot) → slice_get l.members.items place ≡ Some member → vec_len member.node.segments ≡ l.fn.geometry.segments;
  peers : (place : ℕ) (member : Member g.row.D.Denot) → slice_get l.members.items place ≡ Some member → member.node.is_alone ≡ false;
  numbered : (place : ℕ) (member : Member g.row.D.Denot) → slice_get l.members.items place ≡ Some member → member.node.number ≡ place;
  each : (place : ℕ) (member : Member g.row.D.Denot) (seat : Seat) → slice_get l.members.items place ≡ Some member → slice_get l.seats.items place ≡ Some seat
      → slice_get l.fn.nodes.items place ≡ Some (record { node = member.node; seat = seat });
}
