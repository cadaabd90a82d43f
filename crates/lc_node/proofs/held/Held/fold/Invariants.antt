use Rattle.lc_node.specs.Sides.{IsFoldedSide}
use Rattle.lc_log_side.proofs.Forwards.{Forwards}
use Rattle.lc_node.proofs.held.Held.fold.Given as goal

abbrev pub invariant-loop-place : goal.invariant-loop-place
invariant-loop-place g l = Forwards IsFoldedSide l.initial.self.sides.items l.self.sides.items l.place
