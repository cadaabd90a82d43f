-- The record of a transaction has a spelling.
use Rattle.std.proofs.Common.{◌≡◌, ◌⊎◌, ℕ, ◌+◌, ◌<◌, ◌≤◌, eqb, List, [], ◌∷◌, ◌++◌, length, map, drop, refl, sym, subst, ◌∙◌, inl, inr, arith}
use Rattle.std.specs.Prelude.{◌↔◌}
use Rattle.std.specs.List.{AllByRecursion}
use Rattle.std.proofs.lemmas.Bool.{cond-true, cond-false, cases_eq, eq-eqb, ne_eqb}
use Rattle.std.proofs.lemmas.List.{length-map, length-drop, length-take-le}
use Rattle.lc_range.specs.RangeSet.{Has, IsCanonical, LiesBefore, EndWithin}
use Rattle.lc_range.specs.declared.range.Range.{Range}
use Rattle.lc_record.specs.Words.{AreBytes}
use Rattle.lc_record.specs.Record.{Chain, IsLock, IsRange, IsBefore, Locks, Writes, IsCanonical as HasSpelling}
use Rattle.lc_record.specs.declared.record.Lock.{Lock}
use Rattle.lc_record.specs.declared.record.RangeData.{RangeData}
use Rattle.lc_tx.specs.declared.images.Images.{Ghosts}
use Rattle.lc_tx.specs.Images.{bytes_of}
use Rattle.lc_tx.specs.Prepared.{segments_of, run_data, AreUnspent}
use Rattle.lc_tx.specs.Walk.{AreInside}
use Rattle.lc_tx.proofs.RunLemmas.{others, with_others}
use Rattle.lc_tx.proofs.RecordLemmas.{lock_of}

abbrev pub InStore : Range → Type 0
InStore run = (1 ≤ run.segment) × (run.segment ≤ 16)

pub fit_more : (xs : List RangeData) (x : RangeData) → AllByRecursion (λ r. AreBytes r.bytes) xs → AreBytes x.bytes → AllByRecursion (λ r. AreBytes r.bytes) (xs ++ x ∷ [])
fit_more [] x all is = (is, tt)
fit_more (y ∷ xs) x all is = (all.0, fit_more xs x all.1 is)

abbrev FromOn : ℕ → List Range → Type 0
FromOn low [] = Unit {0}
FromOn low (run ∷ runs) = (low ≤ run.segment) × FromOn low runs

pub in_store : (runs : List Range) → IsCanonical runs → ((s k : ℕ) → Has runs s k → (1 ≤ s) × (s ≤ 16)) → AllByRecursion InStore runs
in_store [] c has = tt
in_store (run ∷ runs) c has = (has run.segment run.offset (inl (refl, omega arith, omega (arith, c.0))), in_store runs c.2 (λ s k h. has s k (inr h)))

before_from : (run : Range) (runs : List Range) → LiesBefore run runs → FromOn run.segment runs
before_from run [] b = tt
before_from run (next ∷ runs) b = (elim b.0 [ inl less ↦ omega (arith, less) | inr same ↦ omega (arith, same.0) ], before_from run runs b.1)

few : (l : Lock) (ls : List Lock) → Chain (λ a b. a.segment < b.segment) (l ∷ ls) → AllByRecursion IsLock (l ∷ ls) → l.segment + length ls ≤ 16
few l [] up all = omega (arith, all.0.1)
few l (k ∷ ls) up all = omega (arith, up.0, few k ls up.1 all.1)

less_from : (a b : ℕ) → a ≤ b → (b ≡ a → ⊥) → a < b
less_from a b most other = omega (arith, most, other)

module _ {I : Type 0} (m : Ghosts I) (images : I) where
  abbrev lock : ℕ → Lock
  lock = lock_of m images

  abbrev datum : Range → RangeData
  datum = run_data m images

  others_same : (last : ℕ) (run : Range) (runs : List Range) → run.segment ≡ last → others last (run ∷ runs) ≡ others last runs
  others_same last run runs same = cond-true (eqb run.segment last) (others last runs) (run.segment ∷ others run.segment runs) (eq-eqb run.segment last same)

  others_more : (last : ℕ) (run : Range) (runs : List Range) → (run.segment ≡ last → ⊥) → others last (run ∷ runs) ≡ run.segment ∷ others run.segment runs
  others_more last run runs other = cond-false (eqb run.segment last) (others last runs) (run.segment ∷ others run.segment runs) (ne_eqb run.segment last other)

  ascend : (last : ℕ) (runs : List Range) → IsCanonical runs → FromOn last runs → Chain (λ a b. a.segment < b.segment) (map lock (last ∷ others last runs))
  ascend last [] c from = tt
  ascend last (run ∷ runs) c from = elim (cases_eq run.segment last) [
    | inl same ↦ subst (λ (l : List ℕ). Chain (λ (a b : Lock). a.segment < b.segment) (map lock (last ∷ l))) (sym (others_same last run runs same)) (ascend last runs c.2 from.1)
    | inr other ↦ subst (λ (l : List ℕ). Chain (λ (a b : Lock). a.segment < b.segment) (map lock (last ∷ l))) (sym (others_more last run runs other))
        (less_from last run.segment from.0 other, ascend run.segment runs c.2 (before_from run runs c.1))
  ]

  each_lock : (last : ℕ) (runs : List Range) → AllByRecursion InStore runs → AreUnspent (map lock (others last runs)) → AllByRecursion IsLock (map lock (others last runs))
  each_lock last [] small low = tt
  each_lock last (run ∷ runs) small low = elim (cases_eq run.segment last) [
    | inl same ↦
        let e = others_same last run runs same in
        subst (λ (l : List ℕ). AllByRecursion IsLock (map lock l)) (sym e) (each_lock last runs small.1 (subst (λ (l : List ℕ). AreUnspent (map lock l)) e low))
    | inr other ↦
        let e = others_more last run runs other in
        let low2 = subst (λ (l : List ℕ). AreUnspent (map lock l)) e low in
        subst (λ (l : List ℕ). AllByRecursion IsLock (map lock l)) (sym e) ((small.0.0, small.0.1, omega arith, low2.0), each_lock run.segment runs small.1 low2.1)
  ]

  has : (last : ℕ) (runs : List Range) (s : ℕ) → Locks s (map lock (last ∷ others last runs)) ↔ ((last ≡ s) ⊎ Writes s (map datum runs))
  has last [] s = (λ h. h, λ h. h)
  has last (run ∷ runs) s = elim (cases_eq run.segment last) [
    | inl same ↦
        let is = has last runs s in
        subst (λ (l : List ℕ). Locks s (map lock (last ∷ l)) ↔ ((last ≡ s) ⊎ Writes s (map datum (run ∷ runs)))) (sym (others_same last run runs same)) (
          λ h. elim (is.0 h) [ inl e ↦ inl e | inr w ↦ inr (inr w) ],
          λ h. elim h [ inl e ↦ is.1 (inl e) | inr w ↦ elim w [ inl e ↦ is.1 (inl (sym same ∙ e)) | inr later ↦ is.1 (inr later) ] ],
        )
    | inr other ↦
        let is = has run.segment runs s in
        subst (λ (l : List ℕ). Locks s (map lock (last ∷ l)) ↔ ((last ≡ s) ⊎ Writes s (map datum (run ∷ runs)))) (sym (others_more last run runs other)) (
          λ h. elim h [ inl e ↦ inl e | inr later ↦ inr (is.0 later) ],
          λ h. elim h [ inl e ↦ inl e | inr w ↦ inr (is.1 w) ],
        )
  ]

  long : (run : Range) → run.offset + run.len ≤ length (bytes_of m images run.segment) → length (datum run).bytes ≡ run.len
  long run inside =
      let bytes = bytes_of m images run.segment in
      length-take-le run.len (drop run.offset bytes) (omega (arith, length-drop run.offset bytes, inside))

  each_range : (runs : List Range) → IsCanonical runs → AreInside m images runs → EndWithin runs 262144 → AllByRecursion (λ it. AreBytes it.bytes) (map datum runs) → AllByRecursion IsRange (map datum runs)
  each_range [] c inside short fit = tt
  each_range (run ∷ runs) c inside short fit =
      ((omega (arith, c.0, long run inside.0.1), omega (arith, short.0, long run inside.0.1), fit.0), each_range runs c.2 inside.1 short.1 fit.1)

  ranges_ascend : (runs : List Range) → IsCanonical runs → AreInside m images runs → Chain IsBefore (map datum runs)
  ranges_ascend [] c inside = tt
  ranges_ascend (run ∷ []) c inside = tt
  ranges_ascend (run ∷ next ∷ runs) c inside =
      (elim c.1.0 [ inl less ↦ inl less | inr same ↦ inr (same.0, omega (arith, same.1, long run inside.0.1)) ], ranges_ascend (next ∷ runs) c.2 inside.1)

  pub has_spelling : (node : ℕ) (runs : List Range) → (runs ≡ [] → ⊥) → node ≤ 7 → IsCanonical runs → length runs ≤ 64 → AllByRecursion InStore runs
      → AreUnspent (map lock (segments_of runs)) → AreInside m images runs → EndWithin runs 262144 → AllByRecursion (λ it. AreBytes it.bytes) (map datum runs)
      → HasSpelling (record { node = node; locks = map lock (segments_of runs); ranges = map datum runs })
  has_spelling node [] some small c many store low inside short fit = absurd (some refl)
  has_spelling node (run ∷ runs) some small c many store low inside short fit =
      let e : segments_of (run ∷ runs) ≡ run.segment ∷ others run.segment runs = with_others run.segment runs in
      let low2 = subst (λ (l : List ℕ). AreUnspent (map lock l)) e low in
      let up = ascend run.segment runs c.2 (before_from run runs c.1) in
      let all : AllByRecursion IsLock (map lock (run.segment ∷ others run.segment runs)) = ((store.0.0, store.0.1, omega arith, low2.0), each_lock run.segment runs store.1 low2.1) in
      subst (λ (l : List ℕ). HasSpelling (record { node = node; locks = map lock l; ranges = map datum (run ∷ runs) })) (sym e) (record {
        node = small;
        some_locks = omega arith;
        few_locks = omega (arith, few (lock run.segment) (map lock (others run.segment runs)) up all, store.0.0);
        each_lock = all;
        locks_ascend = up;
        some_ranges = omega arith;
        few_ranges = omega (arith, many, length-map runs datum);
        each_range = each_range (run ∷ runs) c inside short fit;
        ranges_ascend = ranges_ascend (run ∷ runs) c inside;
        same_segments = λ s. has run.segment runs s;
      })
