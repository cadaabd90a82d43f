-- What is copied where two lists of bytes differ.
use Rattle.std.proofs.Common.{◌≡◌, ℕ, ◌+◌, ◌-◌, ◌<◌, ◌≤◌, List, length, get_or, slice_index_or, take, drop, ◌∙◌, ap, subst, inl, inr, arith, length-drop}
use Rattle.std.proofs.lemmas.Bool.{cases_lt}
use Rattle.std.proofs.lemmas.List.{ext_get_or, get_or-take, get_or-drop, length-take-le}
use Rattle.lc_disk.specs.Area.{IsSameOutside, overlaid}
use Rattle.lc_disk.proofs.Outside.{same_before, same_after, overlaid_get}

-- where they are the same outside of two positions, they are the same once what lies between is copied
module _ (now stable new copy : List ℕ) (start end : ℕ)
    (long : length stable ≡ length now) (ordered : start ≤ end) (within : end ≤ length now)
    (before : (k : ℕ) → k < start → slice_index_or stable k 0 ≡ slice_index_or now k 0)
    (after : (k : ℕ) → end ≤ k → slice_index_or stable k 0 ≡ slice_index_or now k 0)
    (copies : copy ≡ take (end - start) (drop start now))
    (lies : new ≡ overlaid stable start copy) (same : IsSameOutside start (length copy) stable new) where
  copy_long : start + length copy ≡ end
  copy_long =
      let behind : length (drop start now) + start ≡ length now = omega (arith, length-drop start now, ordered) in
      omega (arith, ap length copies, length-take-le (end - start) (drop start now) (omega (arith, ordered)), ordered)

  copied_get : (k : ℕ) → start ≤ k → k < end → get_or new k 0 ≡ get_or now k 0
  copied_get k above below =
      let split : start + (k - start) ≡ k = omega arith in
      let inside : k - start < length copy = omega (arith, copy_long) in
      let near : k - start < end - start = omega arith in
      subst (λ (i : ℕ). get_or new i 0 ≡ get_or now i 0) split
      (ap (λ (l : List ℕ). get_or l (start + (k - start)) 0) lies
      ∙ overlaid_get stable copy start (k - start) (omega (arith, copy_long)) inside
      ∙ ap (λ (l : List ℕ). get_or l (k - start) 0) copies
      ∙ get_or-take (end - start) (drop start now) (k - start) 0 near
      ∙ get_or-drop start now (k - start) 0)

  pub between_copied : new ≡ now
  between_copied = ext_get_or 0 new now (same.same_length ∙ long) (λ k h. elim (cases_lt k start) [
    | inl below ↦ same_before start (length copy) stable new same k below ∙ before k below
    | inr above ↦ elim (cases_lt k end) [
      | inl inside ↦ copied_get k above inside
      | inr behind ↦ same_after start (length copy) stable new same k (omega (arith, copy_long, behind)) ∙ after k behind
    ]
  ])
