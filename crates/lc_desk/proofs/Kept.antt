-- The numbers of the parts that wait at a node, and those that follow on without a hole.
use Rattle.std.proofs.Common.{◌≡◌, ℕ, suc, ◌+◌, ◌-◌, ◌≤◌, true, false, ◌||◌, ◌==◌, nat_lt, List, [], ◌∷◌, map, length, filter, All, Some, is_some, refl, sym, ap, subst, ◌∙◌, inl, inr, arith, eq-eqb, ne_eqb}
use Rattle.std.specs.Prelude.{if◌then◌else◌}
use Rattle.std.proofs.lemmas.Bool.{cases_eq, cases_lt}
use Rattle.std.proofs.lemmas.List.Elements.{All-cons, All-head, All-tail}
use Rattle.lc_record.specs.Transaction.{is_member}
use Rattle.lc_record.specs.declared.part.Part.{Part}
use Rattle.lc_token.specs.Backlog.{Ascends, parts_above, numbered, put, run_of}
use Rattle.lc_token.proofs.BacklogLemmas.{above_all, above_later}
use Rattle.lc_settled.specs.Numbers.{reached}
use Rattle.lc_desk.specs.Receives.{parts_over}
use Rattle.lc_settled.specs.Turns.{put_number}
use Rattle.lc_tx.specs.Image.{laid_over}
use Rattle.lc_tx.proofs.PutLemmas.{length-laid_over}

-- by their numbers
abbrev pub numbers : List Part → List ℕ
numbers parts = map (λ (p : Part). p.seq) parts

pub member_is : (n : ℕ) (ps : List Part) → is_some (numbered n ps) ≡ is_member n (numbers ps)
member_is n [] = refl
member_is n (p ∷ ps) = elim (p.seq == n) as (λ b. is_some (if b then Some p else numbered n ps) ≡ (b || is_member n (numbers ps))) [
  | true ↦ refl
  | false ↦ member_is n ps
]

pub put_is : (part : Part) (ps : List Part) → numbers (put part ps) ≡ put_number part.seq (numbers ps)
put_is part [] = refl
put_is part (p ∷ ps) = elim (nat_lt part.seq p.seq) as (λ b. numbers (if b then part ∷ p ∷ ps else p ∷ put part ps) ≡ (if b then part.seq ∷ p.seq ∷ numbers ps else p.seq ∷ put_number part.seq (numbers ps))) [
  | true ↦ refl
  | false ↦ ap (λ ns. p.seq ∷ ns) (put_is part ps)
]

pub above_is : (n : ℕ) (ps : List Part) → numbers (parts_above n ps) ≡ filter (λ k. nat_lt n k) (numbers ps)
above_is n [] = refl
above_is n (p ∷ ps) = elim (nat_lt n p.seq) as (λ b. numbers (if b then p ∷ parts_above n ps else parts_above n ps) ≡ (if b then p.seq ∷ filter (λ k. nat_lt n k) (numbers ps) else filter (λ k. nat_lt n k) (numbers ps))) [
  | true ↦ ap (λ ns. p.seq ∷ ns) (above_is n ps)
  | false ↦ above_is n ps
]

pub above_ascends : (low n : ℕ) (ps : List Part) → Ascends low ps → Ascends n (parts_above n ps)
above_ascends low n [] up = tt
above_ascends low n (p ∷ ps) up = elim (cases_lt n p.seq) [
  | inl over ↦ subst (Ascends n) (sym (above_all n n (p ∷ ps) (over, up.1) (omega arith))) (over, up.1)
  | inr under ↦ subst (Ascends n) (sym (above_later n p ps under)) (above_ascends p.seq n ps up.1)
]

pub all_put : (P : Part → Type 0) (part : Part) (ps : List Part) → P part → All P ps → All P (put part ps)
all_put P part [] own all = All-cons P part [] own all
all_put P part (p ∷ ps) own all = elim (nat_lt part.seq p.seq) as (λ b. All P (if b then part ∷ p ∷ ps else p ∷ put part ps)) [
  | true ↦ All-cons P part (p ∷ ps) own all
  | false ↦ All-cons P p (put part ps) (All-head P p ps all) (all_put P part ps own (All-tail P p ps all))
]

-- those that follow on without a hole reach as far as their numbers do
pub run_reaches : (a : ℕ) (ps : List Part) → reached a (numbers ps) ≡ a + length (run_of a ps)
run_reaches a [] = omega arith
run_reaches a (p ∷ ps) = elim (cases_eq p.seq (a + 1)) [
  | inl same ↦
      let next = run_reaches (a + 1) ps in
      ap (λ b. if b then reached p.seq (numbers ps) else a) (eq-eqb p.seq (a + 1) same)
      ∙ ap (λ n. reached n (numbers ps)) same ∙ next
      ∙ (let long : a + 1 + length (run_of (a + 1) ps) ≡ a + suc (length (run_of (a + 1) ps)) = omega arith in long)
      ∙ ap (λ b. a + length (if b then p ∷ run_of (a + 1) ps else [])) (sym (eq-eqb p.seq (a + 1) same))
  | inr differ ↦
      let none : a ≡ a + 0 = omega arith in
      ap (λ b. if b then reached p.seq (numbers ps) else a) (ne_eqb p.seq (a + 1) differ)
      ∙ none ∙ ap (λ b. a + length (if b then p ∷ run_of (a + 1) ps else [])) (sym (ne_eqb p.seq (a + 1) differ))
]

-- no further than the greatest of them
pub run_within : (a most : ℕ) (ps : List Part) → a ≤ most → All (λ p. p.seq ≤ most) ps → a + length (run_of a ps) ≤ most
run_within a most [] within all = omega (arith, within)
run_within a most (p ∷ ps) within all = elim (cases_eq p.seq (a + 1)) [
  | inl same ↦
      let own : p.seq ≤ most = All-head (λ (q : Part). q.seq ≤ most) p ps all in
      let next = run_within (a + 1) most ps (omega (arith, own, same)) (All-tail (λ (q : Part). q.seq ≤ most) p ps all) in
      let long : length (run_of a (p ∷ ps)) ≡ suc (length (run_of (a + 1) ps)) = ap (λ b. length (if b then p ∷ run_of (a + 1) ps else [])) (eq-eqb p.seq (a + 1) same) in
      omega (arith, next, long)
  | inr differ ↦
      let none : length (run_of a (p ∷ ps)) ≡ 0 = ap (λ b. length (if b then p ∷ run_of (a + 1) ps else [])) (ne_eqb p.seq (a + 1) differ) in
      omega (arith, within, none)
]

-- each of them put on what is there before it
pub run_over : (shown : ℕ → List ℕ) (a : ℕ) (ps : List Part) → All (λ p. laid_over p.ranges (shown (p.seq - 1)) ≡ shown p.seq) ps
    → parts_over (run_of a ps) (shown a) ≡ shown (a + length (run_of a ps))
run_over shown a [] all = (let none : a ≡ a + 0 = omega arith in ap shown none)
run_over shown a (p ∷ ps) all = elim (cases_eq p.seq (a + 1)) [
  | inl same ↦
      let before : a ≡ p.seq - 1 = omega (arith, same) in
      let long : a + 1 + length (run_of (a + 1) ps) ≡ a + suc (length (run_of (a + 1) ps)) = omega arith in
      ap (λ b. parts_over (if b then p ∷ run_of (a + 1) ps else []) (shown a)) (eq-eqb p.seq (a + 1) same)
      ∙ ap (λ n. parts_over (run_of (a + 1) ps) (laid_over p.ranges (shown n))) before
      ∙ ap (parts_over (run_of (a + 1) ps)) (All-head (λ (q : Part). laid_over q.ranges (shown (q.seq - 1)) ≡ shown q.seq) p ps all)
      ∙ ap (λ n. parts_over (run_of (a + 1) ps) (shown n)) same
      ∙ run_over shown (a + 1) ps (All-tail (λ (q : Part). laid_over q.ranges (shown (q.seq - 1)) ≡ shown q.seq) p ps all)
      ∙ ap shown long
      ∙ ap (λ b. shown (a + length (if b then p ∷ run_of (a + 1) ps else []))) (sym (eq-eqb p.seq (a + 1) same))
  | inr differ ↦
      let none : a ≡ a + 0 = omega arith in
      ap (λ b. parts_over (if b then p ∷ run_of (a + 1) ps else []) (shown a)) (ne_eqb p.seq (a + 1) differ)
      ∙ ap shown none
      ∙ ap (λ b. shown (a + length (if b then p ∷ run_of (a + 1) ps else []))) (sym (ne_eqb p.seq (a + 1) differ))
]

-- the bytes stay as many
pub over_long : (parts : List Part) (bytes : List ℕ) → length (parts_over parts bytes) ≡ length bytes
over_long [] bytes = refl
over_long (part ∷ parts) bytes = over_long parts (laid_over part.ranges bytes) ∙ length-laid_over part.ranges bytes
