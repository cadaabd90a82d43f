-- What is kept of one node is the first part of that node's transactions.
use Rattle.std.proofs.Common.{◌≡◌, ℕ, suc, ◌+◌, ◌-◌, ◌<◌, ◌≤◌, true, false, List, [], ◌∷◌, ◌++◌, length, filter, take, slice_index, refl, sym, ◌∙◌, ap, subst, arith, eqb-true, ltb-true, ltb-false, length-append, append-nil}
use Rattle.std.proofs.Math.Seq.{take-nil}
use Rattle.std.proofs.lemmas.List.Elements.{filter-append}
use Rattle.lc_record.specs.Transaction.{Transaction}
use Rattle.lc_model.specs.History.{Numbered, History, Cut, kept, transactions, numbered_after, is_kept, is_of}
use Rattle.lc_model.proofs.Law.{passing, passing-yes, passing-no}

abbrev pub count : ℕ → List Transaction → ℕ
count node ts = length (filter (is_of node) ts)

pub count-own : (node : ℕ) (before : List Transaction) (t : Transaction) → is_of node t ≡ true → count node (before ++ t ∷ []) ≡ count node before + 1
count-own node before t own =
    ap length (filter-append (is_of node) before (t ∷ []) ∙ rw own refl) ∙ length-append (filter (is_of node) before) (t ∷ [])

pub count-other : (node : ℕ) (before : List Transaction) (t : Transaction) → is_of node t ≡ false → count node (before ++ t ∷ []) ≡ count node before
count-other node before t other =
    ap length (filter-append (is_of node) before (t ∷ []) ∙ rw other (append-nil (filter (is_of node) before)))

abbrev kept_part : Cut → List Transaction → List Transaction → List Transaction
kept_part cut before ts = passing (is_kept cut) (numbered_after before ts)

pub kept_after : (cut : Cut) (node : ℕ) (before ts : List Transaction) → filter (is_of node) (kept_part cut before ts) ≡ take (slice_index cut node - count node before) (filter (is_of node) ts)
kept_after cut node before [] = sym (take-nil (slice_index cut node - count node before))
kept_after cut node before (t ∷ ts) =
    let x : Numbered = record { transaction = t; number = count t.node before } in
    let next : filter (is_of node) (kept_part cut (before ++ t ∷ []) ts) ≡ take (slice_index cut node - count node (before ++ t ∷ [])) (filter (is_of node) ts) = kept_after cut node (before ++ t ∷ []) ts in
    let P : Type 0 = filter (is_of node) (kept_part cut before (t ∷ ts)) ≡ take (slice_index cut node - count node before) (filter (is_of node) (t ∷ ts)) in
    let later : List Numbered = numbered_after (before ++ t ∷ []) ts in
    elim (is_of node t) as (λ b. is_of node t ≡ b → P) [
      | true ↦ λ own.
          let same : t.node ≡ node = eqb-true t.node node own in
          let more : count node (before ++ t ∷ []) ≡ count node before + 1 = count-own node before t own in
          elim (is_kept cut x) as (λ b. is_kept cut x ≡ b → P) [
            | true ↦ λ e.
                let below : count node before < slice_index cut node = subst (λ (n : ℕ). count n before < slice_index cut n) same (ltb-true (count t.node before) (slice_index cut t.node) e) in
                let one : slice_index cut node - count node before ≡ suc (slice_index cut node - count node (before ++ t ∷ [])) = omega (arith, more) in
                rw (passing-yes (is_kept cut) x later e, own, one) (ap (λ us. t ∷ us) next)
            | false ↦ λ e.
                let over : slice_index cut node ≤ count node before = subst (λ (n : ℕ). slice_index cut n ≤ count n before) same (ltb-false (count t.node before) (slice_index cut t.node) e) in
                let none : slice_index cut node - count node before ≡ 0 = omega arith in
                let none_next : slice_index cut node - count node (before ++ t ∷ []) ≡ 0 = omega (arith, more) in
                rw (passing-no (is_kept cut) x later e, none) (next ∙ rw none_next refl)
          ] refl
      | false ↦ λ other.
          let as_many : count node (before ++ t ∷ []) ≡ count node before = count-other node before t other in
          elim (is_kept cut x) as (λ b. is_kept cut x ≡ b → P) [
            | true ↦ λ e. rw (passing-yes (is_kept cut) x later e, other) (next ∙ rw as_many refl)
            | false ↦ λ e. rw (passing-no (is_kept cut) x later e, other) (next ∙ rw as_many refl)
          ] refl
    ] refl

-- of each node, what is kept is the first cut(n) of its transactions
pub kept_prefix : (history : History) (cut : Cut) (node : ℕ) → filter (is_of node) (kept history cut) ≡ take (slice_index cut node) (filter (is_of node) (transactions history))
kept_prefix history cut node =
    let all : slice_index cut node - 0 ≡ slice_index cut node = omega arith in
    kept_after cut node [] (transactions history) ∙ ap (λ n. take n (filter (is_of node) (transactions history))) all
