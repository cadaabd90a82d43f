-- The segments of runs, and how their record is laid out.
use Rattle.std.proofs.Common.{◌≡◌, ℕ, ◌+◌, ◌/◌, ◌<◌, ◌≤◌, eqb, List, [], ◌∷◌, length, drop, get_or, refl, sym, ap, subst, ◌∙◌, inl, inr, arith}
use Rattle.std.specs.Prelude.{if◌then◌else◌, ◌==◌}
use Rattle.std.proofs.lemmas.Bool.{cond-true, cond-false, cases_eq, eq-eqb, ne_eqb}
use Rattle.std.proofs.lemmas.List.{drop_more}
use Rattle.lc_range.specs.RangeSet.{EndWithin}
use Rattle.lc_range.specs.declared.range.Range.{Range}
use Rattle.lc_tx.specs.Prepared.{with_number, segments_of}
use Rattle.std.specs.Prelude.{sum_by, map, min, ◌-◌, ◌*◌, ◌^◌}
use Rattle.std.proofs.lemmas.List.{length-map}
use Rattle.std.proofs.lemmas.List.Sums.{sum_by-cons}
use Rattle.lc_record.specs.GrammarVersion.{place_words}
use Rattle.lc_record.specs.Layout.{data_len, layout_of, layout_len, capped}
use Rattle.lc_record.specs.declared.grammar_version.GrammarVersion.{GrammarVersion}
use Rattle.lc_record.specs.declared.grammar_version.GrammarVersion.TheVariants.{First, Second}
use Rattle.lc_record.specs.declared.span.Span.{Span}
use Rattle.lc_record.specs.declared.layout.Layout.{Layout}
use Rattle.lc_tx.specs.Walk.{run_span, runs_layout, AreFromOne}

-- the segments of these runs, each once, without those in front that are of this one
abbrev pub others : ℕ → List Range → List ℕ
others last [] = []
others last (run ∷ runs) = if run.segment == last then others last runs else run.segment ∷ others run.segment runs

pub with_others : (last : ℕ) (runs : List Range) → with_number last (segments_of runs) ≡ last ∷ others last runs
with_others last [] = refl
with_others last (run ∷ runs) = ap (with_number last) (with_others run.segment runs) ∙ (elim (cases_eq last run.segment) [
  | inl same ↦
      cond-true (eqb last run.segment) (run.segment ∷ others run.segment runs) (last ∷ run.segment ∷ others run.segment runs) (eq-eqb last run.segment same)
      ∙ subst (λ (n : ℕ). n ∷ others n runs ≡ last ∷ others last runs) same refl
      ∙ ap (λ (l : List ℕ). last ∷ l) (sym (cond-true (eqb run.segment last) (others last runs) (run.segment ∷ others run.segment runs) (eq-eqb run.segment last (sym same))))
  | inr other ↦
      cond-false (eqb last run.segment) (run.segment ∷ others run.segment runs) (last ∷ run.segment ∷ others run.segment runs) (ne_eqb last run.segment other)
      ∙ ap (λ (l : List ℕ). last ∷ l) (sym (cond-false (eqb run.segment last) (others last runs) (run.segment ∷ others run.segment runs) (ne_eqb run.segment last (λ e. other (sym e)))))
])

-- no run is of segment 0
pub others_of_none : (runs : List Range) → AreFromOne runs → others 0 runs ≡ segments_of runs
others_of_none [] some = refl
others_of_none (run ∷ runs) some =
    cond-false (eqb run.segment 0) (others 0 runs) (run.segment ∷ others run.segment runs) (ne_eqb run.segment 0 (λ e. absurd (omega (arith, e, some.0)))) ∙ sym (with_others run.segment runs)

pub others_same : (last : ℕ) (runs : List Range) (i : ℕ) (d : Range) → i < length runs → (get_or runs i d).segment ≡ last → others last (drop i runs) ≡ others last (drop (i + 1) runs)
others_same last runs i d within same = ap (others last) (drop_more runs i d within) ∙ cond-true _ _ _ (eq-eqb (get_or runs i d).segment last same)

pub others_next : (last : ℕ) (runs : List Range) (i : ℕ) (d : Range) → i < length runs → ((get_or runs i d).segment ≡ last → ⊥)
    → others last (drop i runs) ≡ (get_or runs i d).segment ∷ others (get_or runs i d).segment (drop (i + 1) runs)
others_next last runs i d within other = ap (others last) (drop_more runs i d within) ∙ cond-false _ _ _ (ne_eqb (get_or runs i d).segment last other)

-- Layouts

-- as many locks as segments, at most one for each run
pub few_others : (last : ℕ) (runs : List Range) → length (others last runs) ≤ length runs
few_others last [] = omega arith
few_others last (run ∷ runs) = elim (cases_eq run.segment last) [
  | inl same ↦
      let is : others last (run ∷ runs) ≡ others last runs = cond-true _ _ _ (eq-eqb run.segment last same) in
      omega (arith, ap length is, few_others last runs)
  | inr other ↦
      let is : others last (run ∷ runs) ≡ run.segment ∷ others run.segment runs = cond-false _ _ _ (ne_eqb run.segment last other) in
      omega (arith, ap length is, few_others run.segment runs)
]

pub few_segments_of : (runs : List Range) → AreFromOne runs → length (segments_of runs) ≤ length runs
few_segments_of runs numbered = omega (arith, few_others 0 runs, ap length (others_of_none runs numbered))

abbrev pub span_words : Span → ℕ
span_words span = data_len span.len

-- a run in 262,144 bytes takes 32,768 words at most
few_words : (runs : List Range) → EndWithin runs 262144 → sum_by span_words (map run_span runs) ≤ 32768 * length runs
few_words [] ends = omega arith
few_words (run ∷ runs) ends =
    let one : data_len run.len ≤ 32768 = few run.offset run.len ends.0 in
    omega (arith, one, few_words runs ends.1, sum_by-cons span_words (run_span run) (map run_span runs))
  where
    few : (i n : ℕ) → i + n ≤ 262144 → (n + 7) / 8 ≤ 32768
    few i n end = omega arith

few_place_words : (version : GrammarVersion) (n : ℕ) → place_words version * n ≤ 3 * n
few_place_words First n = omega arith
few_place_words Second n = omega arith

pub short_layout : (runs : List Range) → length runs ≤ 64 → EndWithin runs 262144 → AreFromOne runs → layout_len (runs_layout runs) < 2 ^ 32
short_layout runs few ends numbered =
    omega (
      arith,
      few,
      few_words runs ends,
      few_segments_of runs numbered,
      few_place_words (runs_layout runs).version (runs_layout runs).ranges,
      length-map runs run_span,
    )

-- nothing in it is too great for a word
pub layout_fits : (runs : List Range) (n : ℕ) → length runs ≤ 64 → EndWithin runs 262144 → n ≤ 64 → capped (layout_of n (map run_span runs)) ≡ layout_of n (map run_span runs)
layout_fits runs n few ends locks =
    let spans = map run_span runs in
    let a : min n (2 ^ 64 - 1) ≡ n = omega (arith, locks) in
    let b : min (length spans) (2 ^ 64 - 1) ≡ length spans = omega (arith, few, length-map runs run_span) in
    let d : min (sum_by span_words spans) (2 ^ 64 - 1) ≡ sum_by span_words spans = omega (arith, few, few_words runs ends) in
    rw (a, b, d) refl

-- a number of words that is told as far as a word goes
pub count_of : (n : ℕ) (layout : Layout) (runs : List Range) → n ≡ min (layout_len layout) (2 ^ 64 - 1) → layout ≡ runs_layout runs → layout_len layout < 2 ^ 32 → n ≡ layout_len (runs_layout runs)
count_of n layout runs is laid short = omega (arith, is, short, ap layout_len laid)
