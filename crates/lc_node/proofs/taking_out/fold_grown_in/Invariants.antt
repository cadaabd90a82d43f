use Rattle.lc_node.specs.Sides.{IsRoomier, HasFewParts}
use Rattle.lc_log_side.proofs.Forwards.{Forwards}
use Rattle.lc_node.proofs.taking_out.fold_grown_in.Given as goal

abbrev pub invariant-loop-place : goal.invariant-loop-place
invariant-loop-place g l = Forwards (λ h k. IsRoomier h k × HasFewParts k) l.initial.sides l.sides l.place
