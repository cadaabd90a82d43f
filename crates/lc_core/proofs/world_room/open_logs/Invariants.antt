use Rattle.std.proofs.Common.{◌≡◌, ℕ, ◌<◌, ◌≤◌, true, [], drop, length, Some, vec_capacity}
use Rattle.std.specs.Prelude.{slice_get}
use Rattle.lc_recover.specs.Recovered.{AreFinished}
use Rattle.lc_core.specs.Blank.{AreFilledNodes}
use Rattle.lc_journal.specs.Log.{Stands, area_of, is_idle}
use Rattle.lc_events.specs.declared.node_state.NodeState.{NodeState}
use Rattle.lc_core.proofs.world_room.open_logs.Given as goal

abbrev pub invariant-loop-node : goal.invariant-loop-node
invariant-loop-node g l = record {
  areas : l.areas.items ≡ drop l.node-index l.fn.recovered.areas;
  room : length l.fn.recovered.areas ≤ vec_capacity l.areas;
  filled : AreFilledNodes g.D.Area l.fn.recovered l.nodes;
  log_areas : (n : ℕ) (node : NodeState g.row.D.Denot g.D.Area) → n < l.node-index → slice_get l.nodes n ≡ Some node
      → area_of g.D.Area node.journal.log ≡ slice_get l.fn.recovered.areas n;
  logs : (n : ℕ) (node : NodeState g.row.D.Denot g.D.Area) → n < l.node-index → slice_get l.nodes n ≡ Some node
      → AreFinished g.D.Area l.fn.recovered → Stands g.D.Area node.journal.log 0 [] [] × (is_idle g.D.Area node.journal.log ≡ true);
}
