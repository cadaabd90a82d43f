use Rattle.std.proofs.Common.{ℕ, ◌<◌, [], get_or, All}
use Rattle.lc_log.specs.InPlace.{records_in}
use Rattle.lc_model.specs.Merge.{IsOutside}
use Rattle.lc_recover.specs.Reading.{store_of}
use Rattle.lc_recover.proofs.within.within.Given as goal

abbrev pub invariant-loop-area : goal.invariant-loop-area
invariant-loop-area l = (k : ℕ) → k < l.area → All (λ r. IsOutside (store_of [] l.segments) r → ⊥) (records_in (get_or l.logs k []))
