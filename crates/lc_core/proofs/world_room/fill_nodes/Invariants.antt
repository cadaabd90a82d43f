use Rattle.std.proofs.Common.{◌≡◌, ℕ, ◌<◌, ◌≤◌, Some}
use Rattle.std.specs.Prelude.{slice_get}
use Rattle.lc_events.specs.Blank.{IsFilledNode}
use Rattle.lc_events.specs.declared.node_state.NodeState.{NodeState}
use Rattle.lc_core.proofs.world_room.fill_nodes.Given as goal

abbrev pub invariant-loop-node : goal.invariant-loop-node
invariant-loop-node g l = record {
  front : (n : ℕ) (node : NodeState g.row.D.Denot g.D.Area) → n < l.node-index → slice_get l.nodes n ≡ Some node → IsFilledNode g.D.Area l.recovered n node;
  behind : (n : ℕ) → l.node-index ≤ n → slice_get l.nodes n ≡ slice_get l.initial.nodes n;
}
