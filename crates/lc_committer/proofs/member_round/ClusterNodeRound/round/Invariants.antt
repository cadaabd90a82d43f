use Rattle.std.proofs.Common.{◌<◌, ◌≢◌, ℕ, Result}
use Rattle.lc_cluster.specs.Calls.{PumpsAt}
use Rattle.lc_segments.specs.declared.node_fault.NodeFault.{NodeFault}
use Rattle.lc_node.specs.declared.pumped.Pumped.{Pumped}
use Rattle.lc_committer.proofs.member_round.ClusterNodeRound.round.Given as goal

abbrev pub invariant-loop-peer : goal.invariant-loop-peer
invariant-loop-peer g l = (peer : ℕ) → peer < l.peer → peer ≢ l.self.number
    → (answer : Result Pumped NodeFault) × PumpsAt l.self.cluster.now l.self.number peer answer
