use Rattle.std.proofs.Common.{◌≡◌, ◌≤◌, ℕ, All, Some, drop, vec_len, vec_capacity}
use Rattle.std.specs.Global.{Vec}
use Rattle.std.specs.Prelude.{slice_get}
use Rattle.lc_rest.specs.declared.node_part.NodePart.{NodePart}
use Rattle.lc_stage.specs.declared.seats.CommitSeat.{CommitSeat}
use Rattle.lc_log_side.specs.LeftBy.{AreReceived}
use Rattle.lc_node.specs.LeftBy.{IsLeftNode}
use Rattle.lc_segments.specs.LeftBy.{IsSettledPart}
use Rattle.lc_cluster.proofs.leaving_nodes.take_nodes.Given as goal

abbrev pub invariant-loop : goal.invariant-loop
invariant-loop g l = record {
  nodes_left : l.nodes.items ≡ drop l.counter l.fn.nodes.items;
  seats_left : l.seats.items ≡ drop l.counter l.fn.seats.items;
  count : vec_len l.parts ≡ l.counter;
  fit : vec_len l.fn.nodes ≤ vec_capacity l.parts;
  each : All (IsLeftNode g.D.Area l.geometry) l.parts.items;
  received : (place : ℕ) (part : NodePart g.row.D.Denot g.D.Area) (mine : Vec CommitSeat) → slice_get l.parts.items place ≡ Some part → slice_get l.fn.seats.items place ≡ Some mine
      → AreReceived part.round part.stable.items part.known mine.items;
  settled : All (IsSettledPart g.D.Area) l.tokens.items;
}
