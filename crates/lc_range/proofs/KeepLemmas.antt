-- What is kept after copies of an image's bytes.
use Rattle.std.proofs.Common.{◌≡◌, ◌⊎◌, ℕ, ◌+◌, ◌-◌, ◌<◌, ◌≤◌, List, [], ◌∷◌, length, drop, Option, Some, None, refl, sym, ap, subst, ◌∙◌, inl, inr, arith}
use Rattle.std.specs.Prelude.{slice_index, IsSome}
use Rattle.std.proofs.lemmas.List.{get_or-take, get_or-drop}
use Rattle.std.proofs.lemmas.Bool.{cases_lt, cases_eq}
use Rattle.lc_range.specs.Range.{HasPosition}
use Rattle.lc_range.specs.RangeSet.{Has, EndWithin, AreOutside}
use Rattle.lc_range.specs.Undo.{OldBytes, byte_at, first_of, kept, LiesBelow}
use Rattle.lc_range.specs.Copies.{copy_at, with_copies}
use Rattle.lc_range.specs.declared.range.Range.{Range}
use Rattle.lc_range.proofs.GrowLemmas.{copies_at, kept_with_copies}
use Rattle.lc_range.proofs.CopyLemmas.{byte_in, byte_out, length_part}

-- Bytes cut from an image

byte_of_image : (image : List ℕ) (x : Range) (s k : ℕ) → x.offset + x.len ≤ length image → HasPosition x s k → byte_at (copy_at image x) s k ≡ Some (slice_index image k)
byte_of_image image x s k fits has =
    let long = length_part image x.offset x.len fits in
    byte_in (copy_at image x) s k (sym has.0) has.1 (omega (arith, has.2, long))
    ∙ ap (λ (n : ℕ). Some n) (get_or-take x.len (drop x.offset image) (k - x.offset) 0 (omega (arith, has.1, has.2))
    ∙ get_or-drop x.offset image (k - x.offset) 0 ∙ ap (λ (n : ℕ). slice_index image n) (omega (arith, has.1)))

no_byte : (image : List ℕ) (x : Range) (s k : ℕ) → x.offset + x.len ≤ length image → (HasPosition x s k → ⊥) → byte_at (copy_at image x) s k ≡ None
no_byte image x s k fits not =
    let long = length_part image x.offset x.len fits in
    byte_out (copy_at image x) s k (λ same low high. not (sym same, low, omega (arith, high, long)))

has_or_not : (x : Range) (s k : ℕ) → HasPosition x s k ⊎ (HasPosition x s k → ⊥)
has_or_not x s k = elim (cases_eq s x.segment) [
  | inl same ↦ elim (cases_lt k x.offset) [
    | inl less ↦ inr (λ h. omega (arith, less, h.1))
    | inr low ↦ elim (cases_lt k (x.offset + x.len)) [ inl high ↦ inl (same, low, high) | inr far ↦ inr (λ h. omega (arith, far, h.2)) ]
  ]
  | inr other ↦ inr (λ h. other h.0)
]

pub set_or_not : (xs : List Range) (s k : ℕ) → Has xs s k ⊎ (Has xs s k → ⊥)
set_or_not [] s k = inr (λ never. never)
set_or_not (x ∷ xs) s k = elim (has_or_not x s k) [
  | inl here ↦ inl (inl here)
  | inr not ↦ elim (set_or_not xs s k) [
    | inl later ↦ inl (inr later)
    | inr never ↦ inr (λ h. elim h [ inl here ↦ not here | inr later ↦ never later ])
  ]
]

pub kept_cut : (image : List ℕ) (xs : List Range) (s k : ℕ) → EndWithin xs (length image) → Has xs s k → kept (copies_at image xs) s k ≡ Some (slice_index image k)
kept_cut image [] s k ends has = absurd has
kept_cut image (x ∷ xs) s k ends has = elim (has_or_not x s k) [
  | inl here ↦ ap (λ (o : Option ℕ). first_of o (kept (copies_at image xs) s k)) (byte_of_image image x s k ends.0 here)
  | inr not ↦ elim has [
    | inl here ↦ absurd (not here)
    | inr later ↦ ap (λ (o : Option ℕ). first_of o (kept (copies_at image xs) s k)) (no_byte image x s k ends.0 not) ∙ kept_cut image xs s k ends.1 later
  ]
]

pub kept_none : (image : List ℕ) (xs : List Range) (s k : ℕ) → EndWithin xs (length image) → (Has xs s k → ⊥) → kept (copies_at image xs) s k ≡ None
kept_none image [] s k ends not = refl
kept_none image (x ∷ xs) s k ends not =
    ap (λ (o : Option ℕ). first_of o (kept (copies_at image xs) s k)) (no_byte image x s k ends.0 (λ h. not (inl h))) ∙ kept_none image xs s k ends.1 (λ h. not (inr h))

-- Old copies with those of the parts of a range outside of a set

module _ (old : List OldBytes) (image : List ℕ) (xs set : List Range) (segment offset len : ℕ) (outside : AreOutside set segment offset len xs) (ends : EndWithin xs (length image)) where
  pub keeps_first : (s k byte : ℕ) → kept old s k ≡ Some byte → kept (with_copies old image xs) s k ≡ Some byte
  keeps_first s k byte was = kept_with_copies old image xs s k ∙ ap (λ (o : Option ℕ). first_of o (kept (copies_at image xs) s k)) was

  keeps_new : (s k : ℕ) → kept old s k ≡ None → kept (with_copies old image xs) s k ≡ kept (copies_at image xs) s k
  keeps_new s k was = kept_with_copies old image xs s k ∙ ap (λ (o : Option ℕ). first_of o (kept (copies_at image xs) s k)) was

  pub keeps_bytes : (k : ℕ) → kept old segment k ≡ None → offset ≤ k → k < offset + len → (Has set segment k → ⊥) → kept (with_copies old image xs) segment k ≡ Some (slice_index image k)
  keeps_bytes k was low high not = keeps_new segment k was ∙ kept_cut image xs segment k ends ((outside segment k).1 (refl, low, high, not))

  pub keeps_others : (s k : ℕ) → kept old s k ≡ None → (s ≡ segment → offset ≤ k → k < offset + len → Has set s k) → kept (with_copies old image xs) s k ≡ None
  keeps_others s k was covered = keeps_new s k was ∙ kept_none image xs s k ends (λ h. let o = (outside s k).0 h in o.3 (covered o.0 o.1 o.2))

  pub keeps_below : (s bound : ℕ) → LiesBelow old s bound → (s ≡ segment → offset + len ≤ bound) → LiesBelow (with_copies old image xs) s bound
  keeps_below s bound below fits k some = elim (set_or_not xs s k) [
    | inl has ↦ let o = (outside s k).0 has in inside k bound (offset + len) o.2 (fits o.0)
    | inr not ↦ below k (subst (λ (o : Option ℕ). IsSome o) (only_old k not) some)
  ]
    where
      inside : (k bound end : ℕ) → k < end → end ≤ bound → k < bound
      inside k bound end one two = omega arith

      first_of_none : (a b : Option ℕ) → b ≡ None → first_of a b ≡ a
      first_of_none None b e = e
      first_of_none (Some x) b e = refl

      only_old : (k : ℕ) → (Has xs s k → ⊥) → kept (with_copies old image xs) s k ≡ kept old s k
      only_old k not = kept_with_copies old image xs s k ∙ first_of_none (kept old s k) (kept (copies_at image xs) s k) (kept_none image xs s k ends not)
