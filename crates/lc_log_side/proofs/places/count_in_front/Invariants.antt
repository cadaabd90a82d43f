use Rattle.std.proofs.Common.{◌-◌}
use Rattle.lc_log_side.proofs.Fronts.{IsPassing}
use Rattle.lc_log_side.proofs.places.count_in_front.Given as goal

abbrev pub invariant-loop-at : goal.invariant-loop-at
invariant-loop-at l = IsPassing l.words l.place l.at l.count

abbrev pub decreases-loop-at : goal.decreases-loop-at
decreases-loop-at l = l.place - l.at
