-- Single positions of an area in which a range was written.
use Rattle.std.proofs.Common.{◌≡◌, ◌⊎◌, ℕ, ◌+◌, ◌-◌, ◌<◌, ◌≤◌, Bool, false, List, ◌++◌, length, get_or, take, drop, sym, ◌∙◌, ap, subst, inl, inr, arith, length-append}
use Rattle.std.proofs.lemmas.Bool.{cases_lt, false≢true}
use Rattle.std.proofs.lemmas.List.{get_or-take, get_or-drop, get_or_append_left, get_or-append-add, length-take-le}
use Rattle.lc_disk.specs.Area.{IsSameOutside, BecomeDirty, overlaid}

pub same_before : (at n : ℕ) (old new : List ℕ) → IsSameOutside at n old new → (k : ℕ) → k < at → get_or new k 0 ≡ get_or old k 0
same_before at n old new same k h = sym (get_or-take at new k 0 h) ∙ ap (λ (l : List ℕ). get_or l k 0) same.before ∙ get_or-take at old k 0 h

pub same_after : (at n : ℕ) (old new : List ℕ) → IsSameOutside at n old new → (k : ℕ) → at + n ≤ k → get_or new k 0 ≡ get_or old k 0
same_after at n old new same k h =
    let split : at + n + (k - (at + n)) ≡ k = omega arith in
    subst (λ (i : ℕ). get_or new i 0 ≡ get_or old i 0) split
    (sym (get_or-drop (at + n) new (k - (at + n)) 0) ∙ ap (λ (l : List ℕ). get_or l (k - (at + n)) 0) same.after ∙ get_or-drop (at + n) old (k - (at + n)) 0)

-- what was laid over an area
pub overlaid_get : (old bytes : List ℕ) (at i : ℕ) → at + length bytes ≤ length old → i < length bytes → get_or (overlaid old at bytes) (at + i) 0 ≡ get_or bytes i 0
overlaid_get old bytes at i room below =
    let long : length (take at old) ≡ at = length-take-le at old (omega arith) in
    get_or_append_left (take at old ++ bytes) (drop (at + length bytes) old) 0 (at + i) (omega (arith, length-append (take at old) bytes))
    ∙ subst (λ (n : ℕ). get_or (take at old ++ bytes) (n + i) 0 ≡ get_or bytes i 0) long (get_or-append-add (take at old) bytes i 0)

-- a position that is clean after a write was not written, and was clean before
pub not_written : (at n : ℕ) (old new : ℕ → Bool) → BecomeDirty at n old new → (k : ℕ) → new k ≡ false → (k < at) ⊎ (at + n ≤ k)
not_written at n old new soils k clean = elim (cases_lt k at) [
  | inl below ↦ inl below
  | inr above ↦ elim (cases_lt k (at + n)) [
    | inl inside ↦ absurd (false≢true (sym clean ∙ soils.within k above inside))
    | inr behind ↦ inr behind
  ]
]

pub was_clean : (at n : ℕ) (old new : ℕ → Bool) → BecomeDirty at n old new → (k : ℕ) → new k ≡ false → old k ≡ false
was_clean at n old new soils k clean = elim (not_written at n old new soils k clean) [
  | inl below ↦ sym (soils.before k below) ∙ clean
  | inr behind ↦ sym (soils.after k behind) ∙ clean
]

pub same_where_clean : (at n : ℕ) (old new : List ℕ) (dirty soiled : ℕ → Bool) → IsSameOutside at n old new → BecomeDirty at n dirty soiled → (k : ℕ) → soiled k ≡ false
    → get_or new k 0 ≡ get_or old k 0
same_where_clean at n old new dirty soiled same soils k clean = elim (not_written at n dirty soiled soils k clean) [
  | inl below ↦ same_before at n old new same k below
  | inr behind ↦ same_after at n old new same k behind
]
