-- Loops that read one thing after another.
use Rattle.std.proofs.Common.{◌≡◌, ◌≢◌, ℕ, suc, ◌+◌, ◌-◌, ◌*◌, ◌<◌, ◌≤◌, Bool, true, false, cond, eqb, ltb, ◌&&◌, List, [], ◌∷◌, ◌++◌, length, Option, Some, None, refl, sym, ap, ◌∙◌, inl, inr, arith, append_assoc}
use Rattle.std.proofs.lemmas.Bool.{eq-eqb, ne_eqb, cases_Bool}
use Rattle.std.proofs.lemmas.List.{append-nil, length-take-le}
use Rattle.std.proofs.lemmas.Option.{cond_some, same_Some}
use Rattle.std.proofs.Math.Bool.{and-false as and_false}
use Rattle.lc_record.specs.Words.{bytes_of}
use Rattle.lc_record.specs.GrammarVersion.{number, later, end_of, version_to}
use Rattle.lc_record.specs.Record.{span_of, version_of}
use Rattle.lc_record.specs.Reading.{◌>>=◌, many, range_of, range_at, ranges_at, RangeProgress, place, next_lock, step, follow}
use Rattle.lc_record.specs.declared.grammar_version.GrammarVersion.{GrammarVersion}
use Rattle.lc_record.specs.declared.span.Span.{Span}
use Rattle.lc_record.specs.declared.record.RangeData.{RangeData}
use Rattle.lc_record.proofs.LayoutLemmas.{later_first, later_assoc, version_of-cons}
use Rattle.lc_record.proofs.ReadingLemmas.{bind_some}
use Rattle.lc_record.proofs.WordLemmas.{length-bytes_of}

-- with what was read before
abbrev pub with_front : {A : Type 0} → List A → Option (List A × List ℕ) → Option (List A × List ℕ)
with_front front read = read >>= λ x. Some (front ++ x.0, x.1)

module _ {A : Type 0} (read : List ℕ → Option (A × List ℕ)) (front : List A) (n i : ℕ) (words : List ℕ) (total : Option (List A × List ℕ))
    (so_far : with_front front (many read (n - i) words) ≡ total) where
  regroup : (x : A) (later : Option (List A × List ℕ)) → with_front front (later >>= λ y. Some (x ∷ y.0, y.1)) ≡ with_front (front ++ x ∷ []) later
  regroup x None = refl
  regroup x (Some y) = ap (λ (l : List A). Some (l, y.1)) (sym (append_assoc front (x ∷ []) y.0))

  pub many_next : (x : A) (behind : List ℕ) → i < n → read words ≡ Some (x, behind) → with_front (front ++ x ∷ []) (many read (n - (i + 1)) behind) ≡ total
  unfolding many
  many_next x behind lt e =
      let k : n - i ≡ suc (n - (i + 1)) = omega arith in
      let one : with_front front (many read (n - i) words) ≡ with_front (front ++ x ∷ []) (many read (n - (i + 1)) behind) = rw (k, e) (regroup x (many read (n - (i + 1)) behind)) in
      sym one ∙ so_far

  pub many_fails : i < n → read words ≡ None → total ≡ None
  unfolding many
  many_fails lt e =
      let k : n - i ≡ suc (n - (i + 1)) = omega arith in
      let one : with_front front (many read (n - i) words) ≡ None = rw (k, e) refl in
      sym so_far ∙ one

  pub many_done : n ≤ i → total ≡ Some (front, words)
  unfolding many
  many_done le =
      let k : n - i ≡ 0 = omega arith in
      let one : with_front front (many read (n - i) words) ≡ Some (front, words) = rw k (ap (λ (l : List A). Some (l, words)) (append-nil front)) in
      sym so_far ∙ one

-- what stands after ranges that follow, where those before them want a version
abbrev pub walked_on : GrammarVersion → GrammarVersion → RangeProgress → Option (List RangeData × List ℕ) → Option (List ℕ)
walked_on needed version before read = read >>= λ ranges. cond (follow before ranges.0 && eqb (number (later needed (version_of ranges.0))) (number version)) (Some ranges.1) None

module _ (needed version : GrammarVersion) (before : RangeProgress) (n i : ℕ) (words : List ℕ) (total : Option (List ℕ))
    (so_far : walked_on needed version before (ranges_at version (n - i) words) ≡ total) where
  one_step : (range : RangeData) (after : RangeProgress) (behind : Option (List RangeData × List ℕ)) → step before (span_of range) ≡ Some after
      → walked_on needed version before (behind >>= λ y. Some (range ∷ y.0, y.1)) ≡ walked_on (later needed (version_to (end_of (span_of range)))) version after behind
  one_step range after None e = refl
  one_step range after (Some y) e =
      let one : later needed (version_of (range ∷ y.0)) ≡ later (later needed (version_to (end_of (span_of range)))) (version_of y.0) = ap (later needed) (version_of-cons range y.0) ∙ later_assoc needed (version_to (end_of (span_of range))) (version_of y.0) in
      rw (e, one) refl

  no_step : (range : RangeData) (behind : Option (List RangeData × List ℕ)) → step before (span_of range) ≡ None
      → walked_on needed version before (behind >>= λ y. Some (range ∷ y.0, y.1)) ≡ None
  no_step range None e = refl
  no_step range (Some y) e = rw e refl

  pub walk_next : (range : RangeData) (behind : List ℕ) (after : RangeProgress) → i < n → range_at version words ≡ Some (range, behind)
      → step before (span_of range) ≡ Some after → walked_on (later needed (version_to (end_of (span_of range)))) version after (ranges_at version (n - (i + 1)) behind) ≡ total
  unfolding many
  walk_next range behind after lt e takes =
      let k : n - i ≡ suc (n - (i + 1)) = omega arith in
      let one : walked_on needed version before (ranges_at version (n - i) words) ≡ walked_on (later needed (version_to (end_of (span_of range)))) version after (ranges_at version (n - (i + 1)) behind) =
      rw (k, e) (one_step range after (many (range_at version) (n - (i + 1)) behind) takes) in
      sym one ∙ so_far

  pub walk_stops : (range : RangeData) (behind : List ℕ) → i < n → range_at version words ≡ Some (range, behind)
      → step before (span_of range) ≡ None → total ≡ None
  unfolding many
  walk_stops range behind lt e takes =
      let k : n - i ≡ suc (n - (i + 1)) = omega arith in
      let one : walked_on needed version before (ranges_at version (n - i) words) ≡ None = rw (k, e) (no_step range (many (range_at version) (n - (i + 1)) behind) takes) in
      sym so_far ∙ one

  pub walk_fails : i < n → range_at version words ≡ None → total ≡ None
  unfolding many
  walk_fails lt e =
      let k : n - i ≡ suc (n - (i + 1)) = omega arith in
      let one : walked_on needed version before (ranges_at version (n - i) words) ≡ None = rw (k, e) refl in
      sym so_far ∙ one

  pub walk_done : n ≤ i → total ≡ cond (eqb (length before.locks) 0 && eqb (number needed) (number version)) (Some words) None
  unfolding many
  walk_done le =
      let k : n - i ≡ 0 = omega arith in
      let one : walked_on needed version before (ranges_at version (n - i) words) ≡ cond (eqb (length before.locks) 0 && eqb (number needed) (number version)) (Some words) None =
      rw k (ap (λ (v : GrammarVersion). cond (eqb (length before.locks) 0 && eqb (number v) (number version)) (Some words) None) (later_first needed)) in
      sym so_far ∙ one

  pub walk_left : n ≤ i → length before.locks ≢ 0 → total ≡ None
  walk_left le some =
      let left : eqb (length before.locks) 0 ≡ false = ne_eqb (length before.locks) 0 some in
      walk_done le ∙ rw left refl

  pub walk_other : n ≤ i → number needed ≢ number version → total ≡ None
  walk_other le other =
      let no : eqb (number needed) (number version) ≡ false = ne_eqb (number needed) (number version) other in
      walk_done le ∙ ap (λ (b : Bool). cond (eqb (length before.locks) 0 && b) (Some words) None) no ∙ ap (λ (b : Bool). cond b (Some words) None) (and_false (eqb (length before.locks) 0))

  pub walk_whole : n ≤ i → length before.locks ≡ 0 → number needed ≡ number version → total ≡ Some words
  walk_whole le none same =
      let none_left : eqb (length before.locks) 0 ≡ true = eq-eqb (length before.locks) 0 none in
      let yes : eqb (number needed) (number version) ≡ true = eq-eqb (number needed) (number version) same in
      walk_done le ∙ rw (none_left, yes) refl

-- a step ends where the range ends
pub step_end : (before after : RangeProgress) (span : Span) → step before span ≡ Some after → after.end ≡ end_of span
step_end before after span e = elim (cases_Bool (eqb span.segment before.segment)) [
  | inl same ↦
      let rest : cond (ltb before.end span.offset) (Some (place span.segment (end_of span) before.locks)) None ≡ Some after = rw same at e in
      let taken = cond_some (ltb before.end span.offset) (place span.segment (end_of span) before.locks) after rest in
      ap (λ (p : RangeProgress). p.end) (sym taken.1)
  | inr other ↦
      let rest : (next_lock span.segment before.locks >>= λ locks. Some (place span.segment (end_of span) locks)) ≡ Some after = rw other at e in
      let taken = bind_some (next_lock span.segment before.locks) (λ locks. Some (place span.segment (end_of span) locks)) after rest in
      ap (λ (p : RangeProgress). p.end) (sym (same_Some _ _ taken.2))
]

-- a range has as many bytes as it says
pub range_len : (span : Span) (words : List ℕ) → span.len ≤ 8 * length words → length (range_of span words).bytes ≡ span.len
range_len span words whole = length-take-le span.len (bytes_of words) (omega (arith, whole, length-bytes_of words))

pub range_span : (span : Span) (words : List ℕ) → span.len ≤ 8 * length words → span_of (range_of span words) ≡ span
range_span span words whole = ap (λ (n : ℕ). record span { len = n }) (range_len span words whole)
