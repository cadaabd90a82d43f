-- The part with a number, what parts make due, and lists of parts that ascend.
use Rattle.std.proofs.Common.{◌≡◌, ◌≢◌, ℕ, zero, suc, ◌+◌, ◌<◌, ◌≤◌, true, false, ◌||◌, cond, eqb, ltb, leb, Option, Some, None, is_some, Result, Ok, Err, OnOk, OnErr, List, [], ◌∷◌, ◌++◌, length, refl, sym, ap, subst, ◌∙◌, inl, inr, arith, append_assoc}
use Rattle.std.specs.declared.alloc.AllocError.{AllocError}
use Rattle.std.proofs.lemmas.Bool.{cond-true, cond-false, or_parts, leb-false, lt-leb, eq-eqb, ne_eqb, lt-ltb, le-ltb, cases_eq, cases_lt}
use Rattle.std.proofs.lemmas.Bool.Decides.{nat_tests}
use Rattle.lc_record.specs.declared.part.Part.{Part}
use Rattle.lc_record.proofs.ListLemmas.{none_from_is_some as none_is}
use Rattle.lc_token.specs.declared.received.Received.TheVariants.{Applied}
use Rattle.lc_token.specs.Backlog.{Backlog, Ascends, AreDue, HandsOutKept, IsNext, PassesOn, TakesNext, parts_above, advanced, counted, due_behind, due_of, forgetting, is_known, is_next, keeping, led_by, numbered, put, rest_of, run_of, without}

-- The part with a number

pub numbered_here : (n : ℕ) (p : Part) (ps : List Part) → p.seq ≡ n → numbered n (p ∷ ps) ≡ Some p
numbered_here n p ps e = cond-true (eqb p.seq n) (Some p) (numbered n ps) (eq-eqb p.seq n e)

pub numbered_later : (n : ℕ) (p : Part) (ps : List Part) → p.seq ≢ n → numbered n (p ∷ ps) ≡ numbered n ps
numbered_later n p ps ne = cond-false (eqb p.seq n) (Some p) (numbered n ps) (ne_eqb p.seq n ne)

pub numbered_seq : (n : ℕ) (ps : List Part) (p : Part) → numbered n ps ≡ Some p → p.seq ≡ n
numbered_seq n [] p e = absurd (cc)
numbered_seq n (q ∷ qs) p e = elim (cases_eq q.seq n) [
  | inl same ↦ let there : Some q ≡ Some p = sym (numbered_here n q qs same) ∙ e in let is : q ≡ p = cc in ap (λ (x : Part). x.seq) (sym is) ∙ same
  | inr other ↦ numbered_seq n qs p (sym (numbered_later n q qs other) ∙ e)
]

-- the first with a number is found with more after it
pub numbered_before : (n : ℕ) (ps qs : List Part) (p : Part) → numbered n ps ≡ Some p → numbered n (ps ++ qs) ≡ Some p
numbered_before n [] qs p e = absurd (cc)
numbered_before n (q ∷ ps) qs p e = elim (cases_eq q.seq n) [
  | inl same ↦ numbered_here n q (ps ++ qs) same ∙ (sym (numbered_here n q ps same) ∙ e)
  | inr other ↦ numbered_later n q (ps ++ qs) other ∙ numbered_before n ps qs p (sym (numbered_later n q ps other) ∙ e)
]

-- and where there is none, the first of what follows
pub numbered_behind : (n : ℕ) (ps qs : List Part) → numbered n ps ≡ None → numbered n (ps ++ qs) ≡ numbered n qs
numbered_behind n [] qs e = refl
numbered_behind n (q ∷ ps) qs e = elim (cases_eq q.seq n) [
  | inl same ↦ absurd (let h : Some q ≡ None = sym (numbered_here n q ps same) ∙ e in cc)
  | inr other ↦ numbered_later n q (ps ++ qs) other ∙ numbered_behind n ps qs (sym (numbered_later n q ps other) ∙ e)
]

-- What is due

-- how many are above a number
abbrev count_above : ℕ → List Part → ℕ
count_above a [] = 0
count_above a (p ∷ ps) = cond (ltb a p.seq) 1 0 + count_above a ps

count_falls : (a : ℕ) (ps : List Part) → count_above (a + 1) ps ≤ count_above a ps
count_falls a [] = omega arith
count_falls a (p ∷ ps) = grind (arith, nat_tests, count_falls a ps)

count_length : (a : ℕ) (ps : List Part) → count_above a ps ≤ length ps
count_length a [] = omega arith
count_length a (p ∷ ps) = grind (arith, nat_tests, count_length a ps)

count_next : (a : ℕ) (ps : List Part) (p : Part) → numbered (a + 1) ps ≡ Some p → count_above (a + 1) ps < count_above a ps
count_next a [] p e = absurd (cc)
count_next a (q ∷ qs) p e = elim (cases_eq q.seq (a + 1)) [
  | inl same ↦ grind (arith, nat_tests, count_falls a qs, same)
  | inr other ↦ grind (arith, nat_tests, count_next a qs p (sym (numbered_later (a + 1) q qs other) ∙ e))
]

due_step : (m a : ℕ) (ps : List Part) (o : Option Part) → numbered (a + 1) ps ≡ o → ((p : Part) → o ≡ Some p → AreDue (a + 1) ps (due_of m (a + 1) ps)) → AreDue a ps (led_by o (due_of m (a + 1) ps))
due_step m a ps None e next = e
due_step m a ps (Some p) e next = (e, next p refl)

none_counted : (a : ℕ) (ps : List Part) (o : Option Part) → numbered (a + 1) ps ≡ o → count_above a ps ≤ 0 → o ≡ None
none_counted a ps None e le = refl
none_counted a ps (Some p) e le = absurd (omega (arith, count_next a ps p e))

due_exists : (m a : ℕ) (ps : List Part) → count_above a ps ≤ m → AreDue a ps (due_of m a ps)
due_exists zero a ps le = none_counted a ps (numbered (a + 1) ps) refl le
due_exists (suc m) a ps le = due_step m a ps (numbered (a + 1) ps) refl (λ p e. due_exists m (a + 1) ps (omega (arith, count_next a ps p e)))

pub are_due : (a : ℕ) (ps : List Part) → AreDue a ps (due_behind a ps)
unfolding due_behind
are_due a ps = due_exists (length ps) a ps (count_length a ps)

due_unique : (a : ℕ) (ps xs ys : List Part) → AreDue a ps xs → AreDue a ps ys → xs ≡ ys
due_unique a ps [] [] h k = refl
due_unique a ps [] (y ∷ ys) h k = absurd (let e : None ≡ Some y = sym h ∙ k.0 in cc)
due_unique a ps (x ∷ xs) [] h k = absurd (let e : None ≡ Some x = sym k ∙ h.0 in cc)
due_unique a ps (x ∷ xs) (y ∷ ys) h k =
    let e : Some x ≡ Some y = sym h.0 ∙ k.0 in
    let same : x ≡ y = cc in
    let others = due_unique (a + 1) ps xs ys h.1 k.1 in
    cc

pub due_is : (a : ℕ) (ps xs : List Part) → AreDue a ps xs → due_behind a ps ≡ xs
due_is a ps xs h = due_unique a ps (due_behind a ps) xs (are_due a ps) h

-- what is due depends on the parts above the number alone
pub due_same : (a : ℕ) (ps qs xs : List Part) → ((n : ℕ) → a < n → numbered n qs ≡ numbered n ps) → AreDue a ps xs → AreDue a qs xs
due_same a ps qs [] same h = same (a + 1) (omega arith) ∙ h
due_same a ps qs (x ∷ xs) same h = (same (a + 1) (omega arith) ∙ h.0, due_same (a + 1) ps qs xs (λ n lt. same n (omega arith)) h.1)

-- Parts that ascend

pub none_below : (low n : ℕ) (ps : List Part) → Ascends low ps → n ≤ low → numbered n ps ≡ None
none_below low n [] up le = refl
none_below low n (p ∷ ps) up le = numbered_later n p ps (λ e. omega (arith, e, up.0)) ∙ none_below p.seq n ps up.1 (omega (arith, up.0))

pub ascends_to : (low high : ℕ) (ps : List Part) → low ≡ high → Ascends low ps → Ascends high ps
ascends_to low high ps e up = subst (λ (n : ℕ). Ascends n ps) e up

-- above the next number too, where no part has it
pub ascends_past : (a : ℕ) (ps : List Part) → Ascends a ps → numbered (a + 1) ps ≡ None → Ascends (a + 1) ps
ascends_past a [] up none = tt
ascends_past a (p ∷ ps) up none = elim (cases_eq p.seq (a + 1)) [
  | inl same ↦ absurd (let e : Some p ≡ None = sym (numbered_here (a + 1) p ps same) ∙ none in cc)
  | inr other ↦ (omega (arith, up.0, other), up.1)
]

-- or where the first has not
pub ascends_over : (a : ℕ) (ps : List Part) → Ascends a ps → is_next a ps ≡ false → Ascends (a + 1) ps
ascends_over a [] up not = tt
ascends_over a (p ∷ ps) up not = elim (cases_eq p.seq (a + 1)) [
  | inl same ↦ absurd (let e : true ≡ false = sym (eq-eqb p.seq (a + 1) same) ∙ not in cc)
  | inr other ↦ (omega (arith, up.0, other), up.1)
]

above_here : (n : ℕ) (p : Part) (ps : List Part) → n < p.seq → parts_above n (p ∷ ps) ≡ p ∷ parts_above n ps
above_here n p ps lt = cond-true (ltb n p.seq) (p ∷ parts_above n ps) (parts_above n ps) (lt-ltb n p.seq lt)

pub above_later : (n : ℕ) (p : Part) (ps : List Part) → p.seq ≤ n → parts_above n (p ∷ ps) ≡ parts_above n ps
above_later n p ps le = cond-false (ltb n p.seq) (p ∷ parts_above n ps) (parts_above n ps) (le-ltb n p.seq le)

pub above_all : (low n : ℕ) (ps : List Part) → Ascends low ps → n ≤ low → parts_above n ps ≡ ps
above_all low n [] up le = refl
above_all low n (p ∷ ps) up le = above_here n p ps (omega (arith, up.0)) ∙ ap (λ (xs : List Part). p ∷ xs) (above_all p.seq n ps up.1 (omega (arith, up.0)))

pub length_above : (n : ℕ) (ps : List Part) → length (parts_above n ps) ≤ length ps
length_above n [] = omega arith
length_above n (p ∷ ps) = elim (cases_lt n p.seq) [
  | inl over ↦ let e = ap length (above_here n p ps over) in let few = length_above n ps in omega arith
  | inr under ↦ let e = ap length (above_later n p ps under) in let few = length_above n ps in omega arith
]

-- the parts above a number are found as before
pub numbered_above : (m n : ℕ) (ps : List Part) → m < n → numbered n (parts_above m ps) ≡ numbered n ps
numbered_above m n [] lt = refl
numbered_above m n (p ∷ ps) lt = elim (cases_lt m p.seq) [
  | inl over ↦ elim (cases_eq p.seq n) [
    | inl same ↦ ap (numbered n) (above_here m p ps over) ∙ (numbered_here n p (parts_above m ps) same ∙ sym (numbered_here n p ps same))
    | inr other ↦ ap (numbered n) (above_here m p ps over) ∙ (numbered_later n p (parts_above m ps) other ∙ (numbered_above m n ps lt ∙ sym (numbered_later n p ps other)))
  ]
  | inr under ↦ ap (numbered n) (above_later m p ps under) ∙ (numbered_above m n ps lt ∙ sym (numbered_later n p ps (λ e. omega (arith, e, under, lt))))
]

pub run_here : (a : ℕ) (p : Part) (ps : List Part) → p.seq ≡ a + 1 → run_of a (p ∷ ps) ≡ p ∷ run_of (a + 1) ps
run_here a p ps e = cond-true (eqb p.seq (a + 1)) (p ∷ run_of (a + 1) ps) [] (eq-eqb p.seq (a + 1) e)

run_ends : (a : ℕ) (p : Part) (ps : List Part) → p.seq ≢ a + 1 → run_of a (p ∷ ps) ≡ []
run_ends a p ps ne = cond-false (eqb p.seq (a + 1)) (p ∷ run_of (a + 1) ps) [] (ne_eqb p.seq (a + 1) ne)

pub rest_here : (a : ℕ) (p : Part) (ps : List Part) → p.seq ≡ a + 1 → rest_of a (p ∷ ps) ≡ rest_of (a + 1) ps
rest_here a p ps e = cond-true (eqb p.seq (a + 1)) (rest_of (a + 1) ps) (p ∷ ps) (eq-eqb p.seq (a + 1) e)

rest_ends : (a : ℕ) (p : Part) (ps : List Part) → p.seq ≢ a + 1 → rest_of a (p ∷ ps) ≡ p ∷ ps
rest_ends a p ps ne = cond-false (eqb p.seq (a + 1)) (rest_of (a + 1) ps) (p ∷ ps) (ne_eqb p.seq (a + 1) ne)

-- where no part has the next number, none follows
pub run_none : (a : ℕ) (ps : List Part) → numbered (a + 1) ps ≡ None → run_of a ps ≡ []
run_none a [] none = refl
run_none a (p ∷ ps) none = elim (cases_eq p.seq (a + 1)) [
  | inl same ↦ absurd (let e : Some p ≡ None = sym (numbered_here (a + 1) p ps same) ∙ none in cc)
  | inr other ↦ run_ends a p ps other
]

pub rest_all : (a : ℕ) (ps : List Part) → numbered (a + 1) ps ≡ None → rest_of a ps ≡ ps
rest_all a [] none = refl
rest_all a (p ∷ ps) none = elim (cases_eq p.seq (a + 1)) [
  | inl same ↦ absurd (let e : Some p ≡ None = sym (numbered_here (a + 1) p ps same) ∙ none in cc)
  | inr other ↦ rest_ends a p ps other
]

-- a part with the next number, in front of what is due after it
due_with : (a : ℕ) (p : Part) (ps xs : List Part) → p.seq ≡ a + 1 → AreDue (a + 1) ps xs → AreDue a (p ∷ ps) (p ∷ xs)
due_with a p ps xs e h = (numbered_here (a + 1) p ps e, due_same (a + 1) ps (p ∷ ps) xs (λ n lt. numbered_later n p ps (λ s. omega (arith, s, e, lt))) h)

run_due : (a : ℕ) (ps : List Part) → Ascends a ps → AreDue a ps (run_of a ps)
run_due a [] up = refl
run_due a (p ∷ ps) up = elim (cases_eq p.seq (a + 1)) [
  | inl same ↦ subst (AreDue a (p ∷ ps)) (sym (run_here a p ps same)) (due_with a p ps (run_of (a + 1) ps) same (run_due (a + 1) ps (ascends_to p.seq (a + 1) ps same up.1)))
  | inr other ↦ subst (AreDue a (p ∷ ps)) (sym (run_ends a p ps other)) (numbered_later (a + 1) p ps other ∙ none_below p.seq (a + 1) ps up.1 (omega (arith, up.0)))
]

rest_above : (a : ℕ) (ps : List Part) → Ascends a ps → rest_of a ps ≡ parts_above (a + length (run_of a ps)) ps
rest_above a [] up = refl
rest_above a (p ∷ ps) up = elim (cases_eq p.seq (a + 1)) [
  | inl same ↦
      let long : length (run_of a (p ∷ ps)) ≡ suc (length (run_of (a + 1) ps)) = ap length (run_here a p ps same) in
      let end : a + 1 + length (run_of (a + 1) ps) ≡ a + length (run_of a (p ∷ ps)) = omega arith in
      rest_here a p ps same ∙ (rest_above (a + 1) ps (ascends_to p.seq (a + 1) ps same up.1)
      ∙ (ap (λ (n : ℕ). parts_above n ps) end ∙ sym (above_later (a + length (run_of a (p ∷ ps))) p ps (omega arith))))
  | inr other ↦
      let long : length (run_of a (p ∷ ps)) ≡ 0 = ap length (run_ends a p ps other) in
      rest_ends a p ps other ∙ sym (above_all a (a + length (run_of a (p ∷ ps))) (p ∷ ps) up (omega arith))
]

pub rest_ascends : (a : ℕ) (ps : List Part) → Ascends a ps → Ascends (a + length (run_of a ps)) (rest_of a ps)
rest_ascends a [] up = tt
rest_ascends a (p ∷ ps) up = elim (cases_eq p.seq (a + 1)) [
  | inl same ↦
      let long : length (run_of a (p ∷ ps)) ≡ suc (length (run_of (a + 1) ps)) = ap length (run_here a p ps same) in
      let later = rest_ascends (a + 1) ps (ascends_to p.seq (a + 1) ps same up.1) in
      subst (Ascends (a + length (run_of a (p ∷ ps)))) (sym (rest_here a p ps same)) (ascends_to (a + 1 + length (run_of (a + 1) ps)) (a + length (run_of a (p ∷ ps))) (rest_of (a + 1) ps) (omega arith) later)
  | inr other ↦
      let long : length (run_of a (p ∷ ps)) ≡ 0 = ap length (run_ends a p ps other) in
      subst (Ascends (a + length (run_of a (p ∷ ps)))) (sym (rest_ends a p ps other)) (ascends_to a (a + length (run_of a (p ∷ ps))) (p ∷ ps) (omega arith) up)
]

-- a part with the next number, and those that follow on it
pub due_next : (a : ℕ) (p : Part) (ps : List Part) → p.seq ≡ a + 1 → Ascends (a + 1) ps → due_behind a (p ∷ ps) ≡ p ∷ run_of (a + 1) ps
due_next a p ps e up = due_is a (p ∷ ps) (p ∷ run_of (a + 1) ps) (due_with a p ps (run_of (a + 1) ps) e (run_due (a + 1) ps up))

pub advanced_is : (old : Backlog) (p : Part) → Ascends old.applied old.kept → p.seq ≡ old.applied + 1 → numbered (old.applied + 1) old.kept ≡ None
    → record { segment = old.segment; applied = p.seq + length (run_of p.seq old.kept); due = (old.due ++ p ∷ []) ++ run_of p.seq old.kept; kept = rest_of p.seq old.kept }
    ≡ advanced old (due_behind old.applied (p ∷ old.kept))
advanced_is old p up e none =
    let over : Ascends (old.applied + 1) old.kept = ascends_past old.applied old.kept up none in
    let beyond : Ascends p.seq old.kept = ascends_to (old.applied + 1) p.seq old.kept (sym e) over in
    let due : due_behind old.applied (p ∷ old.kept) ≡ p ∷ run_of p.seq old.kept = due_next old.applied p old.kept e over ∙ ap (λ (n : ℕ). p ∷ run_of n old.kept) (sym e) in
    let long : length (due_behind old.applied (p ∷ old.kept)) ≡ suc (length (run_of p.seq old.kept)) = ap length due in
    let end : p.seq + length (run_of p.seq old.kept) ≡ old.applied + length (due_behind old.applied (p ∷ old.kept)) = omega arith in
    let all : (old.due ++ p ∷ []) ++ run_of p.seq old.kept ≡ old.due ++ due_behind old.applied (p ∷ old.kept) = append_assoc old.due (p ∷ []) (run_of p.seq old.kept) ∙ ap (λ (xs : List Part). old.due ++ xs) (sym due) in
    let rest : rest_of p.seq old.kept ≡ parts_above (old.applied + length (due_behind old.applied (p ∷ old.kept))) old.kept = rest_above p.seq old.kept beyond ∙ ap (λ (n : ℕ). parts_above n old.kept) end in
    cc

-- A part put in its place

pub put_first : (p q : Part) (qs : List Part) → p.seq < q.seq → put p (q ∷ qs) ≡ p ∷ q ∷ qs
put_first p q qs lt = cond-true (ltb p.seq q.seq) (p ∷ q ∷ qs) (q ∷ put p qs) (lt-ltb p.seq q.seq lt)

pub put_later : (p q : Part) (qs : List Part) → q.seq ≤ p.seq → put p (q ∷ qs) ≡ q ∷ put p qs
put_later p q qs le = cond-false (ltb p.seq q.seq) (p ∷ q ∷ qs) (q ∷ put p qs) (le-ltb p.seq q.seq le)

pub ascends_put : (low : ℕ) (p : Part) (qs : List Part) → Ascends low qs → low < p.seq → numbered p.seq qs ≡ None → Ascends low (put p qs)
ascends_put low p [] up lt none = (lt, tt)
ascends_put low p (q ∷ qs) up lt none = elim (cases_eq q.seq p.seq) [
  | inl same ↦ absurd (let e : Some q ≡ None = sym (numbered_here p.seq q qs same) ∙ none in cc)
  | inr other ↦ elim (cases_lt p.seq q.seq) [
    | inl before ↦ subst (Ascends low) (sym (put_first p q qs before)) (lt, (before, up.1))
    | inr behind ↦ subst (Ascends low) (sym (put_later p q qs behind)) (up.0, ascends_put q.seq p qs up.1 (omega (arith, other, behind)) (sym (numbered_later p.seq q qs other) ∙ none))
  ]
]

-- it is found there
pub put_found : (p : Part) (qs : List Part) → numbered p.seq qs ≡ None → numbered p.seq (put p qs) ≡ Some p
put_found p [] none = numbered_here p.seq p [] refl
put_found p (q ∷ qs) none = elim (cases_eq q.seq p.seq) [
  | inl same ↦ absurd (let e : Some q ≡ None = sym (numbered_here p.seq q qs same) ∙ none in cc)
  | inr other ↦ elim (cases_lt p.seq q.seq) [
    | inl before ↦ ap (numbered p.seq) (put_first p q qs before) ∙ numbered_here p.seq p (q ∷ qs) refl
    | inr behind ↦ ap (numbered p.seq) (put_later p q qs behind) ∙ (numbered_later p.seq q (put p qs) other ∙ put_found p qs (sym (numbered_later p.seq q qs other) ∙ none))
  ]
]

-- and the others as before
pub put_others : (n : ℕ) (p : Part) (qs : List Part) → p.seq ≢ n → numbered n (put p qs) ≡ numbered n qs
put_others n p [] ne = numbered_later n p [] ne
put_others n p (q ∷ qs) ne = elim (cases_lt p.seq q.seq) [
  | inl before ↦ ap (numbered n) (put_first p q qs before) ∙ numbered_later n p (q ∷ qs) ne
  | inr behind ↦ ap (numbered n) (put_later p q qs behind) ∙ elim (cases_eq q.seq n) [
    | inl same ↦ numbered_here n q (put p qs) same ∙ sym (numbered_here n q qs same)
    | inr other ↦ numbered_later n q (put p qs) other ∙ (put_others n p qs ne ∙ sym (numbered_later n q qs other))
  ]
]

-- A part taken out again

without_here : (n : ℕ) (p : Part) (ps : List Part) → p.seq ≡ n → without n (p ∷ ps) ≡ ps
without_here n p ps e = cond-true (eqb p.seq n) ps (p ∷ without n ps) (eq-eqb p.seq n e)

without_later : (n : ℕ) (p : Part) (ps : List Part) → p.seq ≢ n → without n (p ∷ ps) ≡ p ∷ without n ps
without_later n p ps ne = cond-false (eqb p.seq n) ps (p ∷ without n ps) (ne_eqb p.seq n ne)

pub put_without : (p : Part) (qs : List Part) → numbered p.seq qs ≡ None → without p.seq (put p qs) ≡ qs
put_without p [] none = without_here p.seq p [] refl
put_without p (q ∷ qs) none = elim (cases_eq q.seq p.seq) [
  | inl same ↦ absurd (let e : Some q ≡ None = sym (numbered_here p.seq q qs same) ∙ none in cc)
  | inr other ↦ elim (cases_lt p.seq q.seq) [
    | inl before ↦ ap (without p.seq) (put_first p q qs before) ∙ without_here p.seq p (q ∷ qs) refl
    | inr behind ↦ ap (without p.seq) (put_later p q qs behind) ∙ (without_later p.seq q (put p qs) other ∙ ap (λ (xs : List Part). q ∷ xs) (put_without p qs (sym (numbered_later p.seq q qs other) ∙ none)))
  ]
]

ascends_lower : (low high : ℕ) (ps : List Part) → low ≤ high → Ascends high ps → Ascends low ps
ascends_lower low high [] le up = tt
ascends_lower low high (p ∷ ps) le up = (omega (arith, le, up.0), up.1)

pub ascends_without : (low n : ℕ) (ps : List Part) → Ascends low ps → Ascends low (without n ps)
ascends_without low n [] up = tt
ascends_without low n (p ∷ ps) up = elim (cases_eq p.seq n) [
  | inl same ↦ subst (Ascends low) (sym (without_here n p ps same)) (ascends_lower low p.seq ps (omega (arith, up.0)) up.1)
  | inr other ↦ subst (Ascends low) (sym (without_later n p ps other)) (up.0, ascends_without p.seq n ps up.1)
]

-- no part has the next number, where the first has not
pub none_next : (a : ℕ) (ps : List Part) → Ascends a ps → is_next a ps ≡ false → numbered (a + 1) ps ≡ None
none_next a [] up not = refl
none_next a (p ∷ ps) up not = elim (cases_eq p.seq (a + 1)) [
  | inl same ↦ absurd (let e : true ≡ false = sym (eq-eqb p.seq (a + 1) same) ∙ not in cc)
  | inr other ↦ numbered_later (a + 1) p ps other ∙ none_below p.seq (a + 1) ps up.1 (omega (arith, up.0))
]

-- What is known

pub unknown : (b : Backlog) (n : ℕ) → is_known b n ≡ false → (b.applied < n) × (numbered n b.kept ≡ None)
unknown b n e =
    let parts = or_parts (leb n b.applied) (is_some (numbered n b.kept)) e in
    (leb-false n b.applied parts.0, none_is (numbered n b.kept) parts.1)

-- what the node's own number leaves of what is kept
pub own_keeps : (a n : ℕ) (old new : List Part) (taken : Option Part) → n ≡ a + 1 → Ascends a old → TakesNext a old taken new → (Ascends n new) × (new ≡ parts_above n old)
own_keeps a n old new None e up takes =
    let over : Ascends n old = ascends_to (a + 1) n old (sym e) (ascends_over a old up takes.0) in
    (subst (Ascends n) (sym takes.1) over, takes.1 ∙ sym (above_all n n old over (omega arith)))
own_keeps a n old new (Some p) e up takes =
    let all : Ascends a (p ∷ new) = subst (Ascends a) takes.0 up in
    let over : Ascends n new = ascends_to p.seq n new (takes.1 ∙ sym e) all.1 in
    (over, sym (ap (parts_above n) takes.0 ∙ (above_later n p new (omega (arith, takes.1, e)) ∙ above_all n n new over (omega arith))))

-- what is kept ascends once a part is put there, or not for want of memory
pub keep_ascends : (b : Backlog) (p : Part) (done : Result (Unit {0}) AllocError) (new : List Part) → Ascends b.applied b.kept → is_known b p.seq ≡ false → OnOk done (new ≡ put p b.kept) → OnErr done (new ≡ b.kept) → Ascends b.applied new
keep_ascends b p (Ok x) new up not ok err = let h = unknown b p.seq not in subst (Ascends b.applied) (sym ok) (ascends_put b.applied p b.kept up h.0 h.1)
keep_ascends b p (Err e) new up not ok err = subst (Ascends b.applied) (sym err) up

-- and the rest of it once a part is applied
pub apply_ascends : (b : Backlog) (p : Part) → Ascends b.applied b.kept → p.seq ≡ b.applied + 1 → is_known b p.seq ≡ false → Ascends (p.seq + length (run_of p.seq b.kept)) (rest_of p.seq b.kept)
apply_ascends b p up e not =
    let none : numbered (b.applied + 1) b.kept ≡ None = ap (λ (n : ℕ). numbered n b.kept) (sym e) ∙ (unknown b p.seq not).1 in
    rest_ascends p.seq b.kept (ascends_to (b.applied + 1) p.seq b.kept (sym e) (ascends_past b.applied b.kept up none))

pub applied_is : (b : Backlog) (p : Part) → Ascends b.applied b.kept → p.seq ≡ b.applied + 1 → is_known b p.seq ≡ false
    → record { segment = b.segment; applied = p.seq + length (run_of p.seq b.kept); due = (b.due ++ p ∷ []) ++ run_of p.seq b.kept; kept = rest_of p.seq b.kept }
    ≡ advanced b (due_behind b.applied (p ∷ b.kept))
applied_is b p up e not = advanced_is b p up e (ap (λ (n : ℕ). numbered n b.kept) (sym e) ∙ (unknown b p.seq not).1)

-- a part with the next number, where none is due or kept, is all that is due after it
pub passes_on : (old : Backlog) (number : ℕ) → IsNext old number → PassesOn number old (Applied number) (counted old number)
passes_on old number h part same =
    let next : part.seq ≡ old.applied + 1 = same ∙ h.next in
    let low : leb part.seq old.applied ≡ false = lt-leb part.seq old.applied (omega (arith, next)) in
    let unknown_is : is_known old part.seq ≡ false = ap (λ b. b || is_some (numbered part.seq old.kept)) low ∙ ap (λ (ps : List Part). is_some (numbered part.seq ps)) h.none_kept in
    let due : due_behind old.applied (part ∷ old.kept) ≡ part ∷ [] = ap (λ (ps : List Part). due_behind old.applied (part ∷ ps)) h.none_kept ∙ due_next old.applied part [] next tt in
    let between : advanced old (due_behind old.applied (part ∷ old.kept)) ≡ record (counted old number) { due = part ∷ old.due } =
    ap (advanced old) due
    ∙ ap (λ (n : ℕ). record old { applied = n; due = old.due ++ part ∷ []; kept = parts_above n old.kept }) (sym h.next)
    ∙ ap (λ (ps : List Part). record (counted old number) { due = ps }) (ap (λ (ps : List Part). ps ++ part ∷ []) h.none_due ∙ sym (ap (λ (ps : List Part). part ∷ ps) h.none_due)) in (
      advanced old (due_behind old.applied (part ∷ old.kept)),
      (unknown_is, next, sym (ap (λ (b : Backlog). b.applied) between), refl),
      between,
    )

-- a part that was not known, kept and forgotten again
pub keeping_forgotten : (old : Backlog) (part : Part) → is_known old part.seq ≡ false → forgetting (keeping old part) part.seq ≡ old
keeping_forgotten old part not =
    let same : without part.seq (put part old.kept) ≡ old.kept = put_without part old.kept (unknown old part.seq not).1 in
    ap (λ (ps : List Part). record old { kept = ps }) same

-- nothing is taken, where no kept part has the next number
pub none_taken : (b : Backlog) (taken : Option Part) (new : List Part) → Ascends b.applied b.kept → taken ≡ None → TakesNext b.applied b.kept taken new → HandsOutKept b None (record b { kept = new })
none_taken b None new up is takes = (none_next b.applied b.kept up takes.0, ap (λ (ps : List Part). record b { kept = ps }) takes.1)
none_taken b (Some p) new up is takes = absurd (cc)
