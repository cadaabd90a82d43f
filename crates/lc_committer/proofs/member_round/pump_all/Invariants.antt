use Rattle.std.proofs.Common.{◌<◌, Result}
use Rattle.lc_cluster.specs.Calls.{PumpsAt}
use Rattle.lc_segments.specs.declared.node_fault.NodeFault.{NodeFault}
use Rattle.lc_node.specs.declared.pumped.Pumped.{Pumped}
use Rattle.lc_committer.proofs.member_round.pump_all.Given as goal

abbrev pub invariant-loop : goal.invariant-loop
invariant-loop g l = 0 < l.counter → (answer : Result Pumped NodeFault) × PumpsAt l.cluster l.to l.from answer
