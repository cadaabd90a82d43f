use Rattle.std.proofs.Common.{◌≡◌, ℕ, ◌<◌, drop, length, Some, vec_capacity}
use Rattle.std.specs.Prelude.{slice_get}
use Rattle.lc_journal.specs.Log.{area_of}
use Rattle.lc_events.specs.declared.node_state.NodeState.{NodeState}
use Rattle.lc_core.proofs.lives.log_areas.Given as goal

abbrev pub invariant-loop : goal.invariant-loop
invariant-loop g l = record {
  rest : l.nodes.items ≡ drop l.counter l.fn.nodes.items;
  count : length l.areas.items ≡ l.counter;
  logs : (n : ℕ) (node : NodeState g.row.D.Denot g.D.Area) → n < l.counter → slice_get l.fn.nodes.items n ≡ Some node → area_of g.D.Area node.journal.log ≡ slice_get l.areas.items n;
  room : vec_capacity l.areas ≡ vec_capacity l.fn.areas;
}
