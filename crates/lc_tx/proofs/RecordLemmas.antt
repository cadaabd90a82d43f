-- The record of a transaction.
use Rattle.std.proofs.Common.{◌≡◌, ℕ, zero, suc, ◌+◌, ◌-◌, ◌^◌, ◌<◌, ◌≤◌, eqb, leb, List, [], ◌∷◌, length, map, take, drop, get_or, Option, Some, unwrap_or, refl, sym, ap, subst, ◌∙◌, inl, inr, arith}
use Rattle.std.specs.Prelude.{◌↔◌}
use Rattle.std.proofs.lemmas.Bool.{cond-true, cond-false, cases_eq, cases_Bool, cases_lt, eq-eqb, ne_eqb, leb-true, leb-false, lt-leb}
use Rattle.std.proofs.lemmas.List.{length-map, length-drop, length-take-le}
use Rattle.std.proofs.lemmas.Option.{same_Some}
use Rattle.lc_range.specs.RangeSet.{Has, IsCanonical, EndWithin}
use Rattle.lc_range.specs.declared.range.Range.{Range}
use Rattle.lc_record.specs.Record.{spans_of, record_layout}
use Rattle.lc_record.specs.Layout.{layout_of}
use Rattle.lc_record.specs.declared.span.Span.{Span}
use Rattle.lc_record.specs.declared.record.Lock.{Lock}
use Rattle.lc_tx.specs.declared.images.Images.{Ghosts}
use Rattle.lc_tx.specs.Images.{IsHere, bytes_of, IsSame}
use Rattle.lc_tx.specs.Prepared.{segments_of, next_number, run_data, runs_record, IsFirstSpent, AreUnspent}
use Rattle.lc_tx.specs.Walk.{run_span, runs_layout, spent_in, locks_of, AreFromOne, AreInside}
use Rattle.lc_tx.specs.declared.image.Image.{Image as Picture}
use Rattle.lc_tx.proofs.RunLemmas.{others, with_others}

module _ {I : Type 0} (m : Ghosts I) where
  abbrev pub lock_of : I → ℕ → Lock
  lock_of images segment = record { segment = segment; seq = next_number m images segment }

  -- One run

  pub inside_at : (images : I) (runs : List Range) (i : ℕ) (d : Range) → AreInside m images runs → i < length runs
      → IsHere m images (get_or runs i d).segment × ((get_or runs i d).offset + (get_or runs i d).len ≤ length (bytes_of m images (get_or runs i d).segment))
  inside_at images [] i d inside within = absurd (omega arith)
  inside_at images (run ∷ runs) zero d inside within = inside.0
  inside_at images (run ∷ runs) (suc i) d inside within = inside_at images runs i d inside.1 (omega arith)

  -- a run has the same bytes in the same images
  pub same_data : (old mid : I) (run : Range) → IsHere m old run.segment → IsSame m old mid → run_data m mid run ≡ run_data m old run
  same_data old mid run here same =
      ap (λ (p : Picture). record { segment = run.segment; offset = run.offset; bytes = take run.len (drop run.offset p.bytes.items) }) (same.others run.segment here refl)

  -- The first that is spent

  abbrev Unspent : I → ℕ → Type 0
  Unspent images segment = next_number m images segment ≤ 2 ^ 60

  spent_or_not : (images : I) (run : Range) (runs : List Range) (s : ℕ) (rest : List Lock) → ((Unspent images run.segment) → (spent_in m images runs ≡ Some s) ↔ IsFirstSpent rest s)
      → (spent_in m images (run ∷ runs) ≡ Some s) ↔ IsFirstSpent (lock_of images run.segment ∷ rest) s
  spent_or_not images run runs s rest later =
      let n : ℕ = unwrap_or (m.number_of images run.segment) 0 in
      elim (cases_Bool (leb (2 ^ 60) n)) [
        | inl spent ↦
            let is : spent_in m images (run ∷ runs) ≡ Some run.segment = cond-true (leb (2 ^ 60) n) (Some run.segment) (spent_in m images runs) spent in (
              λ e. inl (omega (arith, leb-true (2 ^ 60) n spent), same_Some s run.segment (sym e ∙ is)),
              λ f. elim f [ inl here ↦ is ∙ ap (λ (k : ℕ). Some k) (sym here.1) | inr after ↦ absurd (omega (arith, leb-true (2 ^ 60) n spent, after.0)) ],
            )
        | inr not ↦
            let low : n + 1 ≤ 2 ^ 60 = omega (arith, leb-false (2 ^ 60) n not) in
            let is : spent_in m images (run ∷ runs) ≡ spent_in m images runs = cond-false (leb (2 ^ 60) n) (Some run.segment) (spent_in m images runs) not in (
              λ e. inr (low, (later low).0 (sym is ∙ e)),
              λ f. elim f [ inl here ↦ absurd (omega (arith, low, here.0)) | inr after ↦ is ∙ (later low).1 after.1 ],
            )
      ]

  -- where this segment's number is not spent
  spent_others : (images : I) (last : ℕ) (runs : List Range) (s : ℕ) → Unspent images last → (spent_in m images runs ≡ Some s) ↔ IsFirstSpent (map (lock_of images) (others last runs)) s
  spent_others images last [] s low = (λ e. absurd cc, λ never. absurd never)
  spent_others images last (run ∷ runs) s low = elim (cases_eq run.segment last) [
    | inl same ↦
        let n : ℕ = unwrap_or (m.number_of images run.segment) 0 in
        let fine : n + 1 ≤ 2 ^ 60 = subst (λ (k : ℕ). Unspent images k) (sym same) low in
        let is : spent_in m images (run ∷ runs) ≡ spent_in m images runs = cond-false (leb (2 ^ 60) n) (Some run.segment) (spent_in m images runs) (lt-leb (2 ^ 60) n (omega (arith, fine))) in
        subst (λ (o : Option ℕ). (o ≡ Some s) ↔ IsFirstSpent (map (lock_of images) (others last (run ∷ runs))) s) (sym is)
        (subst (λ (l : List ℕ). (spent_in m images runs ≡ Some s) ↔ IsFirstSpent (map (lock_of images) l) s)
        (sym (cond-true (eqb run.segment last) (others last runs) (run.segment ∷ others run.segment runs) (eq-eqb run.segment last same))) (spent_others images last runs s low))
    | inr other ↦
        subst (λ (l : List ℕ). (spent_in m images (run ∷ runs) ≡ Some s) ↔ IsFirstSpent (map (lock_of images) l) s)
        (sym (cond-false (eqb run.segment last) (others last runs) (run.segment ∷ others run.segment runs) (ne_eqb run.segment last other)))
        (spent_or_not images run runs s (map (lock_of images) (others run.segment runs)) (λ fine. spent_others images run.segment runs s fine))
  ]

  pub spent_is : (images : I) (runs : List Range) (s : ℕ) → (spent_in m images runs ≡ Some s) ↔ IsFirstSpent (locks_of m images runs) s
  spent_is images [] s = (λ e. absurd cc, λ never. absurd never)
  spent_is images (run ∷ runs) s =
      subst (λ (l : List ℕ). (spent_in m images (run ∷ runs) ≡ Some s) ↔ IsFirstSpent (map (lock_of images) l) s) (sym (with_others run.segment runs))
      (spent_or_not images run runs s (map (lock_of images) (others run.segment runs)) (λ fine. spent_others images run.segment runs s fine))

  -- locks of which none is the first spent are unspent
  pub unspent_from : (locks : List Lock) → ((s : ℕ) → IsFirstSpent locks s → ⊥) → AreUnspent locks
  unspent_from [] none = tt
  unspent_from (lock ∷ locks) none = elim (cases_lt (2 ^ 60) lock.seq) [
    | inl spent ↦ absurd (none lock.segment (inl (spent, refl)))
    | inr low ↦ (low, unspent_from locks (λ s first. none s (inr (low, first))))
  ]

  pub spent_not_unspent : (locks : List Lock) (s : ℕ) → IsFirstSpent locks s → AreUnspent locks → ⊥
  spent_not_unspent [] s first low = first
  spent_not_unspent (lock ∷ locks) s first low = elim first [ inl here ↦ absurd (omega (arith, here.0, low.0)) | inr later ↦ spent_not_unspent locks s later.1 low.1 ]

  -- How a record is laid out

  spans_are : (images : I) (runs : List Range) → AreInside m images runs → spans_of (map (run_data m images) runs) ≡ map run_span runs
  spans_are images [] inside = refl
  spans_are images (run ∷ runs) inside =
      let bytes = bytes_of m images run.segment in
      let long : length (take run.len (drop run.offset bytes)) ≡ run.len = length-take-le run.len (drop run.offset bytes) (omega (arith, length-drop run.offset bytes, inside.0.1)) in
      ap (λ (n : ℕ). record { segment = run.segment; offset = run.offset; len = n } ∷ spans_of (map (run_data m images) runs)) long
      ∙ ap (λ (l : List Span). run_span run ∷ l) (spans_are images runs inside.1)

  pub layout_is : (images : I) (runs : List Range) (node : ℕ) → AreInside m images runs → record_layout (runs_record m images runs node) ≡ runs_layout runs
  layout_is images runs node inside =
      ap (λ (n : ℕ). layout_of n (spans_of (map (run_data m images) runs))) (length-map (segments_of runs) (lock_of images))
      ∙ ap (layout_of (length (segments_of runs))) (spans_are images runs inside)

  -- The runs of a transaction

  pub inside_from : (images : I) (runs : List Range) → IsCanonical runs → ((s k : ℕ) → Has runs s k → IsHere m images s × (k < length (bytes_of m images s))) → AreInside m images runs
  inside_from images [] c has = tt
  inside_from images (run ∷ runs) c has =
      let last : ℕ = run.offset + run.len - 1 in
      let is = has run.segment last (inl (refl, omega (arith, c.0), omega (arith, c.0))) in
      ((is.0, omega (arith, is.1, c.0)), inside_from images runs c.2 (λ s k h. has s k (inr h)))

pub short_from : (runs : List Range) (bound : ℕ) → IsCanonical runs → ((s k : ℕ) → Has runs s k → k < bound) → EndWithin runs bound
short_from [] bound c has = tt
short_from (run ∷ runs) bound c has =
    let last : ℕ = run.offset + run.len - 1 in
    let is = has run.segment last (inl (refl, omega (arith, c.0), omega (arith, c.0))) in
    (omega (arith, is, c.0), short_from runs bound c.2 (λ s k h. has s k (inr h)))

pub from_one : (runs : List Range) → IsCanonical runs → ((s k : ℕ) → Has runs s k → 1 ≤ s) → AreFromOne runs
from_one [] c has = tt
from_one (run ∷ runs) c has = (has run.segment run.offset (inl (refl, omega arith, omega (arith, c.0))), from_one runs c.2 (λ s k h. has s k (inr h)))
