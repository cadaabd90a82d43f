-- What a closed cut keeps and then the rest: of any two that meet, the earlier stands before the later.
use Rattle.std.proofs.Common.{◌≡◌, ℕ, zero, suc, ◌+◌, ◌-◌, ◌<◌, ◌≤◌, Bool, true, false, cond, not, List, [], ◌∷◌, ◌++◌, length, filter, take, get_or, slice_index, refl, sym, ◌∙◌, ap, subst, arith, true≢false, eqb-true, ltb-true, ltb-false, append-nil, append_assoc}
use Rattle.std.proofs.lemmas.List.Elements.{filter-append}
use Rattle.lc_record.specs.Transaction.{Transaction}
use Rattle.lc_model.specs.History.{Numbered, History, Cut, kept, rest, transactions, numbered, numbered_after, is_kept, is_of, IsClosed, KeepsOrder, StandsBefore}
use Rattle.lc_model.proofs.Law.{passing, failing, passing-yes, passing-no, failing-yes, failing-no}
use Rattle.lc_model.proofs.Prefix.{count, count-own, count-other, kept_after}

-- Numbers

abbrev one : List Transaction → Transaction → Numbered
one before t = record { transaction = t; number = count t.node before }

numbered_after-append : (before ts us : List Transaction) → numbered_after before (ts ++ us) ≡ numbered_after before ts ++ numbered_after (before ++ ts) us
numbered_after-append before [] us = ap (λ bs. numbered_after bs us) (sym (append-nil before))
numbered_after-append before (t ∷ ts) us =
    ap (λ xs. one before t ∷ xs)
    (numbered_after-append (before ++ t ∷ []) ts us
    ∙ ap (λ bs. numbered_after (before ++ t ∷ []) ts ++ numbered_after bs us) (append_assoc before (t ∷ []) ts))

-- as far as a node has some to be kept, those that are kept have the numbers that they had
abbrev AsMany : Cut → List Transaction → List Transaction → Type 0
AsMany cut all before = (node : ℕ) → count node all < slice_index cut node → count node before ≡ count node all

kept_numbers : (cut : Cut) (all before ts : List Transaction) → AsMany cut all before
    → numbered_after before (passing (is_kept cut) (numbered_after all ts)) ≡ filter (is_kept cut) (numbered_after all ts)
kept_numbers cut all before [] same = refl
kept_numbers cut all before (t ∷ ts) same =
    let x : Numbered = one all t in
    let later : List Numbered = numbered_after (all ++ t ∷ []) ts in
    elim (is_kept cut x) as (λ b. is_kept cut x ≡ b → numbered_after before (passing (is_kept cut) (x ∷ later)) ≡ (if_kept b x later)) [
      | true ↦ λ e.
          let below : count t.node all < slice_index cut t.node = ltb-true (count t.node all) (slice_index cut t.node) e in
          let more : AsMany cut (all ++ t ∷ []) (before ++ t ∷ []) = λ node under. own_more node under in
          ap (numbered_after before) (passing-yes (is_kept cut) x later e)
          ∙ ap (λ (n : ℕ). record { transaction = t; number = n } ∷ numbered_after (before ++ t ∷ []) (passing (is_kept cut) later)) (same t.node below)
          ∙ ap (λ xs. x ∷ xs) (kept_numbers cut (all ++ t ∷ []) (before ++ t ∷ []) ts more)
      | false ↦ λ e.
          let over : slice_index cut t.node ≤ count t.node all = ltb-false (count t.node all) (slice_index cut t.node) e in
          let still : AsMany cut (all ++ t ∷ []) before = λ node under. own_still over node under in
          ap (numbered_after before) (passing-no (is_kept cut) x later e) ∙ kept_numbers cut (all ++ t ∷ []) before ts still
    ] refl
  where
    if_kept : Bool → Numbered → List Numbered → List Numbered
    if_kept b x later = cond b (x ∷ filter (is_kept cut) later) (filter (is_kept cut) later)

    own_more : AsMany cut (all ++ t ∷ []) (before ++ t ∷ [])
    own_more node under = elim (is_of node t) as (λ b. is_of node t ≡ b → count node (before ++ t ∷ []) ≡ count node (all ++ t ∷ [])) [
      | true ↦ λ own.
          let a : count node (all ++ t ∷ []) ≡ count node all + 1 = count-own node all t own in
          let b : count node (before ++ t ∷ []) ≡ count node before + 1 = count-own node before t own in
          let e : count node before ≡ count node all = same node (omega arith) in
          omega arith
      | false ↦ λ other.
          let a : count node (all ++ t ∷ []) ≡ count node all = count-other node all t other in
          let b : count node (before ++ t ∷ []) ≡ count node before = count-other node before t other in
          let e : count node before ≡ count node all = same node (omega arith) in
          omega arith
    ] refl

    own_still : slice_index cut t.node ≤ count t.node all → AsMany cut (all ++ t ∷ []) before
    own_still over node under = elim (is_of node t) as (λ b. is_of node t ≡ b → count node before ≡ count node (all ++ t ∷ [])) [
      | true ↦ λ own.
          let a : count node (all ++ t ∷ []) ≡ count node all + 1 = count-own node all t own in
          let same_node : t.node ≡ node = eqb-true t.node node own in
          let here : slice_index cut node ≤ count node all = subst (λ (n : ℕ). slice_index cut n ≤ count n all) same_node over in
          absurd (omega arith)
      | false ↦ λ other.
          let a : count node (all ++ t ∷ []) ≡ count node all = count-other node all t other in
          let e : count node before ≡ count node all = same node (omega arith) in
          omega arith
    ] refl

-- before the others stand all that are kept
abbrev WithKept : Cut → List Transaction → List Transaction → List Transaction → Type 0
WithKept cut all before ts = (node : ℕ) → count node before ≡ count node all + count node (passing (is_kept cut) (numbered_after all ts))

none_kept : (cut : Cut) (node : ℕ) (all ts : List Transaction) → slice_index cut node ≤ count node all → count node (passing (is_kept cut) (numbered_after all ts)) ≡ 0
none_kept cut node all ts over =
    let none : slice_index cut node - count node all ≡ 0 = omega arith in
    ap length (kept_after cut node all ts ∙ ap (λ n. take n (filter (is_of node) ts)) none)

rest_numbers : (cut : Cut) (all before ts : List Transaction) → WithKept cut all before ts
    → numbered_after before (failing (is_kept cut) (numbered_after all ts)) ≡ filter (λ x. not (is_kept cut x)) (numbered_after all ts)
rest_numbers cut all before [] same = refl
rest_numbers cut all before (t ∷ ts) same =
    elim (is_kept cut x) as (λ b. is_kept cut x ≡ b → numbered_after before (failing (is_kept cut) (x ∷ later)) ≡ unless_kept b) [
      | true ↦ λ e. ap (numbered_after before) (failing-yes (is_kept cut) x later e) ∙ rest_numbers cut (all ++ t ∷ []) before ts (kept_more e)
      | false ↦ λ e.
          let over : slice_index cut t.node ≤ count t.node all = ltb-false (count t.node all) (slice_index cut t.node) e in
          let none : count t.node (passing (is_kept cut) (x ∷ later)) ≡ 0 = none_kept cut t.node all (t ∷ ts) over in
          let number : count t.node before ≡ count t.node all = (let all_of = same t.node in omega (arith, all_of, none)) in
          ap (numbered_after before) (failing-no (is_kept cut) x later e)
          ∙ ap (λ (n : ℕ). record { transaction = t; number = n } ∷ numbered_after (before ++ t ∷ []) (failing (is_kept cut) later)) number
          ∙ ap (λ xs. x ∷ xs) (rest_numbers cut (all ++ t ∷ []) (before ++ t ∷ []) ts (rest_more e))
    ] refl
  where
    x : Numbered
    x = one all t

    later : List Numbered
    later = numbered_after (all ++ t ∷ []) ts

    unless_kept : Bool → List Numbered
    unless_kept b = cond (not b) (x ∷ filter (λ x. not (is_kept cut x)) later) (filter (λ x. not (is_kept cut x)) later)

    kept_more : is_kept cut x ≡ true → WithKept cut (all ++ t ∷ []) before ts
    kept_more e node =
        let old : count node before ≡ count node all + count node (t ∷ passing (is_kept cut) later) = subst (λ ts. count node before ≡ count node all + count node ts) (passing-yes (is_kept cut) x later e) (same node) in
        elim (is_of node t) as (λ b. is_of node t ≡ b → count node before ≡ count node (all ++ t ∷ []) + count node (passing (is_kept cut) later)) [
          | true ↦ λ own.
              let a : count node (all ++ t ∷ []) ≡ count node all + 1 = count-own node all t own in
              let b : count node (t ∷ passing (is_kept cut) later) ≡ 1 + count node (passing (is_kept cut) later) = rw own (omega arith) in
              omega (arith, old, a, b)
          | false ↦ λ other.
              let a : count node (all ++ t ∷ []) ≡ count node all = count-other node all t other in
              let b : count node (t ∷ passing (is_kept cut) later) ≡ count node (passing (is_kept cut) later) = rw other refl in
              omega (arith, old, a, b)
        ] refl

    rest_more : is_kept cut x ≡ false → WithKept cut (all ++ t ∷ []) (before ++ t ∷ []) ts
    rest_more e node =
        let old : count node before ≡ count node all + count node (passing (is_kept cut) later) = subst (λ ts. count node before ≡ count node all + count node ts) (passing-no (is_kept cut) x later e) (same node) in
        elim (is_of node t) as (λ b. is_of node t ≡ b → count node (before ++ t ∷ []) ≡ count node (all ++ t ∷ []) + count node (passing (is_kept cut) later)) [
          | true ↦ λ own.
              let a : count node (all ++ t ∷ []) ≡ count node all + 1 = count-own node all t own in
              let b : count node (before ++ t ∷ []) ≡ count node before + 1 = count-own node before t own in
              omega (arith, old, a, b)
          | false ↦ λ other.
              let a : count node (all ++ t ∷ []) ≡ count node all = count-other node all t other in
              let b : count node (before ++ t ∷ []) ≡ count node before = count-other node before t other in
              omega (arith, old, a, b)
        ] refl

-- so what is kept and then the rest, numbered anew, are those that they were
same_numbers : (history : History) (cut : Cut)
    → numbered_after [] (kept history cut ++ rest history cut) ≡ filter (is_kept cut) (numbered history) ++ filter (λ x. not (is_kept cut x)) (numbered history)
same_numbers history cut =
    numbered_after-append [] (kept history cut) (rest history cut)
    ∙ ap (λ xs. xs ++ numbered_after (kept history cut) (rest history cut)) (kept_numbers cut [] [] (transactions history) (λ node under. refl))
    ∙ ap (λ xs. filter (is_kept cut) (numbered history) ++ xs) (rest_numbers cut [] (kept history cut) (transactions history) (λ node. omega arith))

-- Places

record Split (xs : List Numbered) (y : Numbered) : Type 0 where
  front : List Numbered
  behind : List Numbered
  are : xs ≡ front ++ y ∷ behind

split : (xs : List Numbered) (j : ℕ) (d : Numbered) → j < length xs → Split xs (get_or xs j d)
split [] j d below = absurd (omega arith)
split (x ∷ xs) zero d below = record { front = []; behind = xs; are = refl }
split (x ∷ xs) (suc j) d below =
    let later : Split xs (get_or xs j d) = split xs j d (omega arith) in
    record { front = x ∷ later.front; behind = later.behind; are = ap (λ ys. x ∷ ys) later.are }

pub stands_before : (xs : List Numbered) (i j : ℕ) (d : Numbered) → i < j → j < length xs → StandsBefore xs (get_or xs i d) (get_or xs j d)
stands_before [] i j d i_lt j_in = absurd (omega arith)
stands_before (x ∷ xs) i zero d i_lt j_in = absurd (omega arith)
stands_before (x ∷ xs) zero (suc j) d i_lt j_in =
    let later : Split xs (get_or xs j d) = split xs j d (omega arith) in
    record { front = []; between = later.front; behind = later.behind; are = ap (λ ys. x ∷ ys) later.are }
stands_before (x ∷ xs) (suc i) (suc j) d i_lt j_in =
    let later : StandsBefore xs (get_or xs i d) (get_or xs j d) = stands_before xs i j d (omega arith) (omega arith) in
    record { front = x ∷ later.front; between = later.between; behind = later.behind; are = ap (λ ys. x ∷ ys) later.are }

-- the parts of a list that pass a test
tested : (p : Numbered → Bool) (front between behind : List Numbered) (x y : Numbered)
    → filter p (front ++ x ∷ (between ++ y ∷ behind)) ≡ filter p front ++ (filter p (x ∷ []) ++ (filter p between ++ (filter p (y ∷ []) ++ filter p behind)))
tested p front between behind x y =
    filter-append p front (x ∷ (between ++ y ∷ behind))
    ∙ ap (λ xs. filter p front ++ xs)
    (filter-append p (x ∷ []) (between ++ y ∷ behind)
    ∙ ap (λ xs. filter p (x ∷ []) ++ xs) (filter-append p between (y ∷ behind) ∙ ap (λ xs. filter p between ++ xs) (filter-append p (y ∷ []) behind)))

passes : (p : Numbered → Bool) (x : Numbered) → p x ≡ true → filter p (x ∷ []) ≡ x ∷ []
passes p x e = rw e

fails : (p : Numbered → Bool) (x : Numbered) → p x ≡ false → filter p (x ∷ []) ≡ []
fails p x e = rw e

-- where what passes goes first, the one stands before the other still, unless the later alone passes
still_before : (keep : Numbered → Bool) (xs : List Numbered) (x y : Numbered) → StandsBefore xs x y → (keep y ≡ true → keep x ≡ true)
    → StandsBefore (filter keep xs ++ filter (λ z. not (keep z)) xs) x y
still_before keep xs x y stood pulls =
    elim (keep x) as (λ b. keep x ≡ b → StandsBefore (filter keep xs ++ filter (λ z. not (keep z)) xs) x y) [
      | true ↦ λ x_is. elim (keep y) as (λ b. keep y ≡ b → StandsBefore (filter keep xs ++ filter (λ z. not (keep z)) xs) x y) [
        | true ↦ λ y_is. record {
          front = yes front;
          between = yes between;
          behind = yes behind ++ others xs;
          are = both_first (passes keep x x_is) (passes keep y y_is) (others xs);
        }
        | false ↦ λ y_is. record {
          front = yes front;
          between = (yes between ++ yes behind) ++ (others front ++ others between);
          behind = others behind;
          are = apart x_is y_is;
        }
      ] refl
      | false ↦ λ x_is. elim (keep y) as (λ b. keep y ≡ b → StandsBefore (filter keep xs ++ filter (λ z. not (keep z)) xs) x y) [
        | true ↦ λ y_is. absurd (true≢false (sym (pulls y_is) ∙ x_is))
        | false ↦ λ y_is. record {
          front = yes xs ++ others front;
          between = others between;
          behind = others behind;
          are = both_last (passes other x (ap not x_is)) (passes other y (ap not y_is));
        }
      ] refl
    ] refl
  where
    other : Numbered → Bool
    other z = not (keep z)

    yes : List Numbered → List Numbered
    yes zs = filter keep zs

    others : List Numbered → List Numbered
    others zs = filter other zs

    front : List Numbered
    front = stood.front

    between : List Numbered
    between = stood.between

    behind : List Numbered
    behind = stood.behind

    parts : (p : Numbered → Bool) → filter p xs ≡ filter p front ++ (filter p (x ∷ []) ++ (filter p between ++ (filter p (y ∷ []) ++ filter p behind)))
    parts p = ap (filter p) stood.are ∙ tested p front between behind x y

    both_first : yes (x ∷ []) ≡ x ∷ [] → yes (y ∷ []) ≡ y ∷ [] → (zs : List Numbered)
        → yes xs ++ zs ≡ yes front ++ x ∷ (yes between ++ y ∷ (yes behind ++ zs))
    both_first x_is y_is zs = rw (parts keep, x_is, y_is) (simp append_assoc)

    both_last : others (x ∷ []) ≡ x ∷ [] → others (y ∷ []) ≡ y ∷ []
        → yes xs ++ others xs ≡ (yes xs ++ others front) ++ x ∷ (others between ++ y ∷ others behind)
    both_last x_is y_is = rw (parts other, x_is, y_is) (simp append_assoc)

    apart : keep x ≡ true → keep y ≡ false
        → yes xs ++ others xs ≡ yes front ++ x ∷ (((yes between ++ yes behind) ++ (others front ++ others between)) ++ y ∷ others behind)
    apart x_is y_is =
        rw (parts keep, passes keep x x_is, fails keep y y_is, parts other, fails other x (ap not x_is), passes other y (ap not y_is)) (simp append_assoc)

pub law_meet : (history : History) (cut : Cut) → IsClosed history cut → KeepsOrder (transactions history) (kept history cut ++ rest history cut)
law_meet history cut closed i j d i_lt j_in meet =
    let xs : List Numbered = numbered history in
    subst (λ zs. StandsBefore zs (get_or xs i d) (get_or xs j d)) (sym (same_numbers history cut))
    (still_before (is_kept cut) xs (get_or xs i d) (get_or xs j d) (stands_before xs i j d i_lt j_in) (closed i j d i_lt j_in meet))
