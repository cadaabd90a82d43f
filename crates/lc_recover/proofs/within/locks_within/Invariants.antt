use Rattle.std.proofs.Common.{◌≤◌, All, take}
use Rattle.lc_recover.proofs.within.locks_within.Given as goal

abbrev pub invariant-loop-index : goal.invariant-loop-index
invariant-loop-index l = All (λ lock. lock.segment ≤ l.segments) (take l.index l.view.locks)
