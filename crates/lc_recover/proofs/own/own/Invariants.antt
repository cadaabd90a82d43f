use Rattle.std.proofs.Common.{◌≡◌, ℕ, ◌<◌, [], get_or, All}
use Rattle.lc_log.specs.InPlace.{records_in}
use Rattle.lc_recover.proofs.own.own.Given as goal

abbrev pub invariant-loop-area : goal.invariant-loop-area
invariant-loop-area l = (k : ℕ) → k < l.area → All (λ r. r.node ≡ k) (records_in (get_or l.logs k []))
