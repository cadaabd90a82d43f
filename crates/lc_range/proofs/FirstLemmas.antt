-- The first range of a transaction: nothing is set and nothing kept before it.
use Rattle.std.proofs.Common.{◌≡◌, ℕ, ◌+◌, ◌<◌, ◌≤◌, List, [], ◌∷◌, ◌++◌, length, refl, sym, ap, subst, ◌∙◌, arith}
use Rattle.std.specs.Prelude.{slice_index}
use Rattle.lc_range.specs.RangeSet.{IsCanonical, AddsPositions, CountsOutside, MissesSome, NeedsRunsAbove, total_len}
use Rattle.lc_range.specs.Undo.{OldBytes, AddsCopies, KeepsOld, LiesBelow, NeedsBytesAbove, bytes_kept}
use Rattle.lc_range.specs.Copies.{AreCopies, copies_of, copy_at, with_copies}
use Rattle.lc_range.specs.Walk.{merged}
use Rattle.lc_range.specs.declared.range.Range.{Range}
use Rattle.lc_range.proofs.AddLemmas.{adds}
use Rattle.lc_range.proofs.SetLemmas.{above_needs}
use Rattle.lc_range.proofs.PartsLemmas.{ArePartsOf, parts_are, misses_some}
use Rattle.lc_range.proofs.OutsideLemmas.{full}
use Rattle.lc_range.proofs.GrowLemmas.{are_copies_with, copies_with, copy_of, bytes_with_copies, copies_with_all}
use Rattle.lc_range.proofs.KeepLemmas.{keeps_first, keeps_bytes, keeps_others, keeps_below}

-- Ranges and bytes that are no copies yet, and one after them

pub none_yet : (xs : List Range) (bytes : List ℕ) → copies_of xs bytes ≡ [] → AreCopies xs bytes → (length xs ≡ 0) × (length bytes ≡ 0)
none_yet [] bytes e are = (refl, are.whole)
none_yet (x ∷ xs) bytes e are = absurd cc

pub are_first_copies : (xs : List Range) (bytes part : List ℕ) (x : Range) → copies_of xs bytes ≡ [] → AreCopies xs bytes → 1 ≤ x.len → length part ≡ x.len → AreCopies (xs ++ x ∷ []) (bytes ++ part)
are_first_copies [] bytes part x e are some long = are_copies_with [] x bytes part are some long
are_first_copies (r ∷ xs) bytes part x e are some long = absurd cc

pub one_copy : (xs : List Range) (bytes part : List ℕ) (x : Range) → copies_of xs bytes ≡ [] → AreCopies xs bytes → length part ≡ x.len → copies_of (xs ++ x ∷ []) (bytes ++ part) ≡ copy_of x part ∷ []
one_copy [] bytes part x e are long = copies_with [] x bytes part are.whole long
one_copy (r ∷ xs) bytes part x e are long = absurd cc

-- What the first range adds

module _ (set : List Range) (old : List OldBytes) (image : List ℕ) (s offset len : ℕ) (none : set ≡ []) (nothing : old ≡ []) (some : 1 ≤ len) (fits : offset + len ≤ length image) where
  abbrev first : Range
  first = record { segment = s; offset = offset; len = len }

  canonical_none : IsCanonical set
  canonical_none = subst (λ (l : List Range). IsCanonical l) (sym none) tt

  parts : ArePartsOf set s offset len (length image) (first ∷ [])
  parts =
      parts_are set [] s offset len (length image) (first ∷ []) (first ∷ []) (sym none) canonical_none fits refl
      (sym (full s offset (offset + len) (omega (arith, some)) ∙ ap (λ (n : ℕ). record { segment = s; offset = offset; len = n } ∷ []) (omega arith)))

  copies : with_copies old image (first ∷ []) ≡ copy_at image first ∷ []
  copies = ap (λ (l : List OldBytes). with_copies l image (first ∷ [])) nothing

  pub first_kept : KeepsOld old set s offset len (slice_index image) (copy_at image first ∷ [])
  first_kept =
      subst (λ (l : List OldBytes). KeepsOld old set s offset len (slice_index image) l) copies (record {
        first = keeps_first old image (first ∷ []) set s offset len parts.outside parts.ends;
        fresh = keeps_bytes old image (first ∷ []) set s offset len parts.outside parts.ends;
        others = keeps_others old image (first ∷ []) set s offset len parts.outside parts.ends;
      })

  pub first_counted : (n : ℕ) × CountsOutside set s offset len n × (bytes_kept (copy_at image first ∷ []) ≡ bytes_kept old + n)
  first_counted =
      subst (λ (l : List OldBytes). (n : ℕ) × CountsOutside set s offset len n × (bytes_kept l ≡ bytes_kept old + n)) copies
      (total_len (first ∷ []), (first ∷ [], parts.canonical, parts.outside, refl), bytes_with_copies old image (first ∷ []) parts.ends)

  pub first_copies : AddsCopies old set s offset len (copy_at image first ∷ [])
  first_copies =
      subst (λ (l : List OldBytes). AddsCopies old set s offset len l) copies
      (first ∷ [], parts.canonical, parts.outside, copies_with_all old image (first ∷ []) parts.canonical parts.ends)

  pub first_below : (t bound : ℕ) → LiesBelow old t bound → (t ≡ s → offset + len ≤ bound) → LiesBelow (copy_at image first ∷ []) t bound
  first_below =
      subst (λ (l : List OldBytes). (t bound : ℕ) → LiesBelow old t bound → (t ≡ s → offset + len ≤ bound) → LiesBelow l t bound) copies
      (keeps_below old image (first ∷ []) set s offset len parts.outside parts.ends)

  pub first_adds : AddsPositions set s offset len (first ∷ [])
  first_adds = adds set first (first ∷ []) canonical_none some (sym (ap (merged first) none))

  -- one run stands
  pub never_above : (n : ℕ) → 1 ≤ n → NeedsRunsAbove n set s offset len → ⊥
  never_above n more needs = omega (arith, more, above_needs n first set some canonical_none needs, ap (λ (l : List Range). length (merged first l)) none)

  pub first_needs : 64 < len → NeedsBytesAbove 64 old set s offset len
  first_needs large = (total_len (first ∷ []), (first ∷ [], parts.canonical, parts.outside, refl), omega (arith, large))

  pub first_misses : MissesSome set s offset len
  first_misses = misses_some set (first ∷ []) s offset len parts.outside parts.canonical (omega arith)
