use Rattle.std.proofs.Common.{ℕ, ◌<◌}
use Rattle.lc_rest.specs.Merge.{logs_of, MayTurn}
use Rattle.lc_rest.proofs.merge.find_turn.Given as goal

abbrev pub invariant-loop-node : goal.invariant-loop-node
invariant-loop-node l = (k : ℕ) → k < l.node → MayTurn (logs_of l.logs) l.done l.numbers k → ⊥
