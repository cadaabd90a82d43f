-- The records in the order of their turns.
use Rattle.std.proofs.Common.{◌≡◌, ℕ, zero, suc, ◌+◌, ◌<◌, ◌≤◌, List, [], ◌∷◌, ◌++◌, length, take, drop, refl, sym, ◌∙◌, ap, subst, arith, inl, inr, append_assoc}
use Rattle.std.specs.Prelude.{slice_index_or}
use Rattle.std.proofs.lemmas.Bool.{cases_lt}
use Rattle.std.proofs.lemmas.List.{append-nil, get_or_past}
use Rattle.lc_record.specs.declared.record.Record.{Record}
use Rattle.lc_rest.specs.Merge.{merged_after, record_at, times}
use Rattle.lc_rest.proofs.Following.{times-front}

pub merged-more : (logs : List (List Record)) (before ns : List ℕ) (n : ℕ) → merged_after logs before (ns ++ n ∷ []) ≡ merged_after logs before ns ++ record_at logs n (times n (before ++ ns)) ∷ []
merged-more logs before [] n = ap (λ (b : List ℕ). record_at logs n (times n b) ∷ []) (sym (append-nil before))
merged-more logs before (k ∷ ns) n =
    ap (λ (rs : List Record). record_at logs k (times k before) ∷ rs) (merged-more logs (before ++ k ∷ []) ns n
    ∙ ap (λ (b : List ℕ). merged_after logs (before ++ k ∷ []) ns ++ record_at logs n (times n b) ∷ []) (append_assoc before (k ∷ []) ns))

split-at : (order : List ℕ) (i d : ℕ) → i < length order → order ≡ take i order ++ slice_index_or order i d ∷ drop (suc i) order
split-at [] i d less = absurd (omega (arith, less))
split-at (n ∷ order) zero d less = refl
split-at (n ∷ order) (suc i) d less = ap (λ (l : List ℕ). n ∷ l) (split-at order i d (omega (arith, less)))

pub turn-fits : (logs : List (List Record)) (order : List ℕ) (i d : ℕ) → i < length order → ((m : ℕ) → times m order ≤ length (slice_index_or logs m []))
    → (slice_index_or order i d < length logs) × (times (slice_index_or order i d) (take i order) < length (slice_index_or logs (slice_index_or order i d) []))
turn-fits logs order i d less fits =
    let n = slice_index_or order i d in
    let front : times n (take i order) + 1 ≤ times n order = subst (λ (l : List ℕ). times n (take i order) + 1 ≤ times n l) (sym (split-at order i d less)) (times-front n (take i order) (drop (suc i) order)) in
    let most = fits n in
    let some : times n (take i order) < length (slice_index_or logs n []) = omega (arith, front, most) in (
      elim (cases_lt n (length logs)) [
        | inl within ↦ within
        | inr past ↦ absurd (let none : length (slice_index_or logs n []) ≡ 0 = ap length (get_or_past logs n [] (omega (arith, past))) in omega (arith, some, none))
      ],
      some,
    )
