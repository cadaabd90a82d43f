-- A commit on a segment alone.
use Rattle.std.proofs.Common.{◌≡◌, ℕ, ◌<◌, List, [], ◌∷◌, length, get_or, arith}
use Rattle.lc_node.specs.Commits.{segments_in}
use Rattle.lc_segments.specs.declared.held.HeldSide.{HeldSide}

module _ {D : Type 0} where
  pub first_of_one : (l : List (HeldSide D)) (d : HeldSide D) (s : ℕ) → segments_in l ≡ s ∷ [] → (0 < length l) × ((get_or l 0 d).side.segment ≡ s)
  first_of_one [] d s is = absurd cc
  first_of_one (x ∷ xs) d s is = (omega arith, cc)
