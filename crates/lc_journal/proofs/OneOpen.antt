-- A thread has one reservation at most that is not closed, so closing it sets one mark.
use Rattle.std.proofs.Common.{◌≡◌, ℕ, zero, suc, ◌≤◌, Bool, true, false, List, [], ◌∷◌, ◌++◌, map, filter, length, All, Some, refl, sym, ap, subst, ◌∙◌, arith}
use Rattle.std.specs.Prelude.{AllPairs, slice_get, slice_set, if◌then◌else◌}
use Rattle.std.proofs.lemmas.List.Elements.{All-head, All-tail}
use Rattle.std.proofs.lemmas.Option.{same_Some as same_some}
use Rattle.lc_record.specs.Transaction.{Transaction}
use Rattle.lc_record.specs.declared.geometry.Geometry.{Geometry}
use Rattle.lc_model.specs.History.{Entry, History, entries_of, is_of}
use Rattle.lc_model.specs.Sound.{Sound, AreApart, unclosed}
use Rattle.lc_model.specs.State.{State, is_by}
use Rattle.lc_model.proofs.Fronts.{entry}
use Rattle.lc_model.proofs.Holders.{is_by-both}
use Rattle.lc_model.proofs.Law.{AllPairs-head, AllPairs-tail}
use Rattle.lc_model.proofs.Seats.{is_by-other}
use Rattle.lc_settled.proofs.Closes.{shut}

pairs_right : {A : Type 0} (R : A → A → Type 0) (xs ys : List A) → AllPairs R (xs ++ ys) → AllPairs R ys
pairs_right R [] ys pairs = pairs
pairs_right R (x ∷ xs) ys pairs = pairs_right R xs ys (AllPairs-tail R x (xs ++ ys) pairs)

module _ (node i : ℕ) where
  -- those of the thread
  abbrev its : List Transaction → List Transaction
  its ts = filter (is_by node i) ts

  none_apart : (t : Transaction) (ts : List Transaction) → is_by node i t ≡ true → All (AreApart t) ts → its ts ≡ []
  none_apart t [] mine apart = refl
  none_apart t (u ∷ ts) mine apart =
      let by = is_by-both node i t mine in
      let one : AreApart t u = All-head (AreApart t) u ts apart in
      ap (λ b. if b then u ∷ its ts else its ts) (is_by-other node i u (λ nodes threads. one.threads_differ (by.0 ∙ sym nodes) (by.1 ∙ sym threads)))
      ∙ none_apart t ts mine (All-tail (AreApart t) u ts apart)

  one_apart : (ts : List Transaction) → AllPairs AreApart ts → length (its ts) ≤ 1
  one_apart [] apart = omega arith
  one_apart (t ∷ ts) apart = elim (is_by node i t) as (λ b. is_by node i t ≡ b → length (if b then t ∷ its ts else its ts) ≤ 1) [
    | true ↦ λ e. omega (arith, ap length (none_apart t ts e (AllPairs-head AreApart t ts apart)))
    | false ↦ λ e. one_apart ts (AllPairs-tail AreApart t ts apart)
  ] refl

  both_have : (t : Transaction) (closed : Bool) (xs ys : History) → length (its (unclosed xs)) ≤ length (its (unclosed ys))
      → length (its (unclosed (entry t closed ∷ xs))) ≤ length (its (unclosed (entry t closed ∷ ys)))
  both_have t true xs ys less = less
  both_have t false xs ys less = elim (is_by node i t) as (λ b. length (if b then t ∷ its (unclosed xs) else its (unclosed xs)) ≤ length (if b then t ∷ its (unclosed ys) else its (unclosed ys))) [
    | true ↦ omega (arith, less)
    | false ↦ less
  ]

  one_has : (t : Transaction) (closed : Bool) (ys : History) (n : ℕ) → n ≤ length (its (unclosed ys)) → n ≤ length (its (unclosed (entry t closed ∷ ys)))
  one_has t true ys n less = less
  one_has t false ys n less = elim (is_by node i t) as (λ b. n ≤ length (if b then t ∷ its (unclosed ys) else its (unclosed ys))) [
    | true ↦ omega (arith, less)
    | false ↦ less
  ]

  fewer_of_node : (history : History) → length (its (unclosed (entries_of node history))) ≤ length (its (unclosed history))
  fewer_of_node [] = omega arith
  fewer_of_node (e ∷ es) = elim (is_of node e.transaction) as (λ b. length (its (unclosed (if b then e ∷ entries_of node es else entries_of node es))) ≤ length (its (unclosed (e ∷ es)))) [
    | true ↦ both_have e.transaction e.closed (entries_of node es) es (fewer_of_node es)
    | false ↦ one_has e.transaction e.closed es (length (its (unclosed (entries_of node es)))) (fewer_of_node es)
  ]

  pub one_open : (g : Geometry) (s : State) → Sound g s → length (its (unclosed (entries_of node s.history))) ≤ 1
  one_open g s sound = omega (arith, fewer_of_node s.history, one_apart (unclosed s.history) (pairs_right AreApart s.running (unclosed s.history) sound.apart))

  counts_mine : (t : Transaction) (es : History) → is_by node i t ≡ true → length (its (unclosed (entry t false ∷ es))) ≡ suc (length (its (unclosed es)))
  counts_mine t es mine = ap (λ b. length (if b then t ∷ its (unclosed es) else its (unclosed es))) mine

  some_open : (es : History) (k : ℕ) (t : Transaction) → slice_get es k ≡ Some (entry t false) → is_by node i t ≡ true → 1 ≤ length (its (unclosed es))
  some_open [] k t there mine = absurd cc
  some_open (e ∷ es) zero t there mine =
      subst (λ (x : Entry). 1 ≤ length (its (unclosed (x ∷ es)))) (sym (same_some e (entry t false) there)) (omega (arith, counts_mine t es mine))
  some_open (e ∷ es) (suc k) t there mine = one_has e.transaction e.closed es 1 (some_open es k t there mine)

  abbrev marks : History → List Bool
  marks es = map (λ (e : Entry). e.closed) es

  -- an entry that is not the thread's, or is closed, keeps its mark
  same_marks_one : (t : Transaction) (closed : Bool) (es : History) → (length (its (unclosed es)) ≡ 0 → marks (map (shut node i) es) ≡ marks es)
      → length (its (unclosed (entry t closed ∷ es))) ≡ 0 → marks (map (shut node i) (entry t closed ∷ es)) ≡ marks (entry t closed ∷ es)
  same_marks_one t true es next none = ap (λ l. true ∷ l) (next none)
  same_marks_one t false es next none = elim (is_by node i t) as (λ b. is_by node i t ≡ b → marks (map (shut node i) (entry t false ∷ es)) ≡ marks (entry t false ∷ es)) [
    | true ↦ λ e. absurd (omega (arith, none, counts_mine t es e))
    | false ↦ λ e. ap (λ b. (if b then entry t true else entry t false).closed ∷ marks (map (shut node i) es)) e
        ∙ ap (λ l. false ∷ l) (next (sym (ap (λ b. length (if b then t ∷ its (unclosed es) else its (unclosed es))) e) ∙ none))
  ] refl

  same_marks : (es : History) → length (its (unclosed es)) ≡ 0 → marks (map (shut node i) es) ≡ marks es
  same_marks [] none = refl
  same_marks (e ∷ es) none = same_marks_one e.transaction e.closed es (same_marks es) none

  shut_later : (t : Transaction) (closed : Bool) (es : History) (k : ℕ) → 1 ≤ length (its (unclosed es))
      → (length (its (unclosed es)) ≤ 1 → marks (map (shut node i) es) ≡ slice_set (marks es) k true)
      → length (its (unclosed (entry t closed ∷ es))) ≤ 1 → marks (map (shut node i) (entry t closed ∷ es)) ≡ slice_set (marks (entry t closed ∷ es)) (suc k) true
  shut_later t true es k some next few = ap (λ l. true ∷ l) (next few)
  shut_later t false es k some next few = elim (is_by node i t) as (λ b. is_by node i t ≡ b → marks (map (shut node i) (entry t false ∷ es)) ≡ slice_set (marks (entry t false ∷ es)) (suc k) true) [
    | true ↦ λ e. absurd (omega (arith, few, counts_mine t es e, some))
    | false ↦ λ e. ap (λ b. (if b then entry t true else entry t false).closed ∷ marks (map (shut node i) es)) e
        ∙ ap (λ l. false ∷ l) (next (omega (arith, few, ap (λ b. length (if b then t ∷ its (unclosed es) else its (unclosed es))) e)))
  ] refl

  pub shut_marks : (es : History) (k : ℕ) (t : Transaction) → slice_get es k ≡ Some (entry t false) → is_by node i t ≡ true → length (its (unclosed es)) ≤ 1
      → marks (map (shut node i) es) ≡ slice_set (marks es) k true
  shut_marks [] k t there mine few = absurd cc
  shut_marks (e ∷ es) zero t there mine few =
      let same : e ≡ entry t false = same_some e (entry t false) there in
      let none : length (its (unclosed es)) ≡ 0 = omega (arith, subst (λ (x : Entry). length (its (unclosed (x ∷ es))) ≤ 1) same few, counts_mine t es mine) in
      subst (λ (x : Entry). marks (map (shut node i) (x ∷ es)) ≡ slice_set (marks (x ∷ es)) zero true) (sym same)
      (ap (λ b. (if b then entry t true else entry t false).closed ∷ marks (map (shut node i) es)) mine ∙ ap (λ l. true ∷ l) (same_marks es none))
  shut_marks (e ∷ es) (suc k) t there mine few =
      shut_later e.transaction e.closed es k (some_open es k t there mine) (shut_marks es k t there mine) few
