-- The bytes gathered segment by segment are those of all ranges.
use Rattle.std.proofs.Common.{◌≡◌, ℕ, ◌≤◌, ◌<◌, true, eqb, List, [], ◌∷◌, ◌++◌, take, drop, refl, sym, ap, ◌∙◌, inl, inr, arith, append_assoc}
use Rattle.std.specs.Prelude.{IsTrue}
use Rattle.std.proofs.lemmas.Bool.{false≢true, cases_eq, cond-true, cond-false, eq-eqb, ne_eqb, eqb-true, or_cases}
use Rattle.lc_record.specs.Record.{Chain}
use Rattle.lc_record.specs.Transaction.{is_member}
use Rattle.lc_range.specs.RangeSet.{Has, IsCanonical, LiesBefore}
use Rattle.lc_range.specs.declared.range.Range.{Range}
use Rattle.lc_changes.specs.Gathering.{bytes_at, gathered, part_at, values_of}

-- all of these ranges lie in a segment or above
abbrev FromOn : ℕ → List Range → Type 0
FromOn low [] = Unit {0}
FromOn low (r ∷ rs) = (low ≤ r.segment) × FromOn low rs

from_before : (r : Range) (rs : List Range) → LiesBefore r rs → FromOn r.segment rs
from_before r [] before = tt
from_before r (next ∷ rs) before = (elim before.0 [ inl less ↦ omega (arith, less) | inr same ↦ omega (arith, same.0) ], from_before r rs before.1)

part_here : (s : ℕ) (image : List ℕ) (r : Range) → r.segment ≡ s → part_at s image r ≡ take r.len (drop r.offset image)
part_here s image r is = cond-true (eqb r.segment s) (take r.len (drop r.offset image)) [] (eq-eqb r.segment s is)

part_other : (s : ℕ) (image : List ℕ) (r : Range) → (r.segment ≡ s → ⊥) → part_at s image r ≡ []
part_other s image r other = cond-false (eqb r.segment s) (take r.len (drop r.offset image)) [] (ne_eqb r.segment s other)

-- a segment below all ranges has none of them
none_below : (s low : ℕ) (image : List ℕ) (rs : List Range) → s < low → FromOn low rs → bytes_at s image rs ≡ []
none_below s low image [] less from = refl
none_below s low image (r ∷ rs) less from =
    ap (λ (l : List ℕ). l ++ bytes_at s image rs) (part_other s image r (λ is. omega (arith, is, less, from.0))) ∙ none_below s low image rs less from.1

-- nor do segments above a range's
without : (images : ℕ → List ℕ) (s : ℕ) (segments : List ℕ) (r : Range) (rs : List Range) → Chain (λ a b. a < b) (s ∷ segments) → r.segment ≤ s
    → gathered images segments (r ∷ rs) ≡ gathered images segments rs
without images s [] r rs up low = refl
without images s (next ∷ segments) r rs up low =
    ap (λ (l : List ℕ). (l ++ bytes_at next (images next) rs) ++ gathered images segments (r ∷ rs)) (part_other next (images next) r (λ is. omega (arith, is, up.0, low)))
    ∙ ap (λ (l : List ℕ). bytes_at next (images next) rs ++ l) (without images next segments r rs up.1 (omega (arith, up.0, low)))

later_from : (n s : ℕ) (segments : List ℕ) → (n ≡ s → ⊥) → is_member n (s ∷ segments) ≡ true → is_member n segments ≡ true
later_from n s segments other is = elim (or_cases (eqb s n) (is_member n segments) is) [ inl here ↦ absurd (other (sym (eqb-true s n here))) | inr later ↦ later ]

tail : (s : ℕ) (segments : List ℕ) → Chain (λ a b. a < b) (s ∷ segments) → Chain (λ a b. a < b) segments
tail s [] up = tt
tail s (next ∷ segments) up = up.1

not_above : (n s : ℕ) (segments : List ℕ) → Chain (λ a b. a < b) (s ∷ segments) → is_member n segments ≡ true → s < n
not_above n s [] up is = absurd (false≢true is)
not_above n s (next ∷ segments) up is = elim (or_cases (eqb next n) (is_member n segments) is) [
  | inl here ↦ omega (arith, eqb-true next n here, up.0)
  | inr later ↦ omega (arith, not_above n next segments up.1 later, up.0)
]

above_from : (n s : ℕ) (segments : List ℕ) → Chain (λ a b. a < b) (s ∷ segments) → (s ≡ n → ⊥) → is_member n (s ∷ segments) ≡ true → s < n
above_from n s segments up other is = not_above n s segments up (later_from n s segments (λ e. other (sym e)) is)

has_from : (low : ℕ) (rs : List Range) (s k : ℕ) → FromOn low rs → Has rs s k → low ≤ s
has_from low [] s k from has = absurd has
has_from low (r ∷ rs) s k from has = elim has [ inl here ↦ omega (arith, here.0, from.0) | inr later ↦ has_from low rs s k from.1 later ]

none_gathered : (images : ℕ → List ℕ) (segments : List ℕ) → gathered images segments [] ≡ []
none_gathered images [] = refl
none_gathered images (s ∷ segments) = none_gathered images segments

pub in_order : (images : ℕ → List ℕ) (segments : List ℕ) (set : List Range) → IsCanonical set → Chain (λ a b. a < b) segments → ((s k : ℕ) → Has set s k → IsTrue (is_member s segments))
    → gathered images segments set ≡ values_of images set
in_order images segments [] canonical up among = none_gathered images segments
in_order images [] (r ∷ rs) canonical up among = absurd (false≢true (among r.segment r.offset (inl (refl, omega arith, omega (arith, canonical.0)))))
in_order images (s ∷ segments) (r ∷ rs) canonical up among =
    let member : is_member r.segment (s ∷ segments) ≡ true = among r.segment r.offset (inl (refl, omega arith, omega (arith, canonical.0))) in
    elim (cases_eq s r.segment) [
      | inl is ↦
          let part : List ℕ = take r.len (drop r.offset (images r.segment)) in
          ap (λ (l : List ℕ). (l ++ bytes_at s (images s) rs) ++ gathered images segments (r ∷ rs)) (part_here s (images s) r (sym is) ∙ ap (λ (x : ℕ). take r.len (drop r.offset (images x))) is)
          ∙ ap (λ (l : List ℕ). (part ++ bytes_at s (images s) rs) ++ l) (without images s segments r rs up (omega (arith, is)))
          ∙ append_assoc part (bytes_at s (images s) rs) (gathered images segments rs)
          ∙ ap (λ (l : List ℕ). part ++ l) (in_order images (s ∷ segments) rs canonical.2 up (λ t k has. among t k (inr has)))
      | inr other ↦
          let above : s < r.segment = above_from r.segment s segments up other member in
          let from : FromOn r.segment (r ∷ rs) = (omega arith, from_before r rs canonical.1) in
          ap (λ (l : List ℕ). l ++ gathered images segments (r ∷ rs)) (none_below s r.segment (images s) (r ∷ rs) above from)
          ∙ in_order images segments (r ∷ rs) canonical (tail s segments up) (λ t k has. later_from t s segments (let low = has_from r.segment (r ∷ rs) t k from has in λ is. omega (arith, is, low, above)) (among t k has))
    ]
