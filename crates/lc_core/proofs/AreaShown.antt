-- The area after those of the logs is that of a segment.
use Rattle.std.proofs.Common.{◌≡◌, ℕ, ◌-◌, ◌≤◌, List, drop, slice_get, ap, ◌∙◌, arith}
use Rattle.lc_record.proofs.ListLemmas.{slice_get-drop as get-drop}

pub behind_logs : {D : Type 0} (segments areas : List D) (count n place : ℕ) → segments ≡ drop count areas → n ≡ count → n ≤ place
    → slice_get segments (place - n) ≡ slice_get areas place
behind_logs segments areas count n place same all past =
    ap (λ (xs : List _). slice_get xs (place - n)) same ∙ get-drop count (place - n) areas ∙ ap (slice_get areas) (omega (arith, past, all))
