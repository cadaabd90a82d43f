-- Of a log that comes up: no round has ended, and no record is counted.
use Rattle.std.proofs.Common.{◌≡◌, List, [], All, length, refl, ap, arith}
use Rattle.lc_log_side.specs.Published.{records_of}

-- no round has ended
pub none_ended : {X : Type 0} (P : X → Type 0) (past : List X) → past ≡ [] → All P past
none_ended P past none k d within = let same : length past ≡ 0 = ap (λ (l : List _). length l) none in absurd (omega arith)

pub none_counted : 0 ≡ length (records_of [])
unfolding records_of
none_counted = refl
