-- The pages of a list of changes.
use Rattle.std.proofs.Common.{◌≡◌, ◌≢◌, ℕ, zero, suc, ◌+◌, ◌-◌, ◌<◌, ◌≤◌, ◌⊎◌, Bool, true, false, not, ◌&&◌, ◌==◌, true≢false, List, [], ◌∷◌, ◌++◌, length, get_or, take, drop, filter, Some, All, Contains, refl, sym, ◌∙◌, ap, subst, arith, inl, inr, eqb-true, eq-eqb}
use Rattle.std.specs.Prelude.{slice_get, if◌then◌else◌}
use Rattle.std.proofs.lemmas.Bool.{cases_Bool, and_parts as and_true, and_from as both_true, not-true as not_true, not-false as not_false}
use Rattle.std.proofs.lemmas.List.Elements.{All-head, All-tail, All-weaker, All-contains, All-contains_itself, All-filter, filter_passes, Contains-append_left, Contains-append_right, Contains-append_cases}
use Rattle.std.proofs.lemmas.List.{take_all, length-drop}
use Rattle.std.proofs.lemmas.Option.{same_Some, slice_get-get_or}
use Rattle.lc_model.proofs.Visible.{contains-filter}
use Rattle.lc_recover.specs.StoreContents.{AreAscending, IsBefore}
use Rattle.lc_recover.specs.Page.{IsOf, IsOfAnother, IsFirstPage, page_of, is_another, pages_of, AreListed, AreDifferent, ArePagesAscending, BeginWithTheFirst, IsPageBefore}
use Rattle.lc_recover.specs.declared.redo_range.RedoRange.{RedoRange}

-- Pairs

abbrev Pair : Type 0
Pair = ℕ × ℕ

same_pair : (p q : Pair) → p.0 ≡ q.0 → p.1 ≡ q.1 → p ≡ q
same_pair p q first second =
    let one : ◌≡◌ {A = Pair} (p.0, p.1) (q.0, p.1) = ap (λ (n : ℕ). let x : Pair = (n, p.1) in x) first in
    let two : ◌≡◌ {A = Pair} (q.0, p.1) (q.0, q.1) = ap (λ (n : ℕ). let x : Pair = (q.0, n) in x) second in
    one ∙ two

-- a test that fails says that the pairs are the same
not_another : (p q : Pair) → is_another p q ≡ false → p ≡ q
not_another p q is =
    let both = and_true (p.0 == q.0) (p.1 == q.1) (not_false ((p.0 == q.0) && (p.1 == q.1)) is) in
    same_pair p q (eqb-true p.0 q.0 both.0) (eqb-true p.1 q.1 both.1)

another-differs : (p q : Pair) → is_another p q ≡ true → p ≢ q
another-differs p q is same =
    let differ : ((p.0 == q.0) && (p.1 == q.1)) ≡ false = not_true ((p.0 == q.0) && (p.1 == q.1)) is in
    true≢false (sym (both_true (p.0 == q.0) (p.1 == q.1) (eq-eqb p.0 q.0 (ap (λ (x : Pair). x.0) same)) (eq-eqb p.1 q.1 (ap (λ (x : Pair). x.1) same))) ∙ differ)

itself-is_not : (p : Pair) → is_another p p ≡ false
itself-is_not p = ap (λ (b : Bool). not b) (both_true (p.0 == p.0) (p.1 == p.1) (eq-eqb p.0 p.0 refl) (eq-eqb p.1 p.1 refl))

is_another-differs : (p q : Pair) → (p ≡ q → ⊥) → is_another p q ≡ true
is_another-differs p q differ =
    elim (cases_Bool (is_another p q)) [ inl is ↦ is | inr same ↦ absurd (differ (not_another p q same)) ]

-- Filters

kept_all : {A : Type 0} (f : A → Bool) (xs : List A) → All (λ x. f x ≡ true) xs → filter f xs ≡ xs
kept_all f [] all = refl
kept_all f (x ∷ xs) all =
    let own : f x ≡ true = All-head (λ y. f y ≡ true) x xs all in
    rw own (ap (λ ys. x ∷ ys) (kept_all f xs (All-tail (λ y. f y ≡ true) x xs all)))

in_one : {A : Type 0} (x y : A) → Contains (x ∷ []) y → x ≡ y
in_one x y (zero, lt, is) = is
in_one x y (suc k, lt, is) = absurd (omega (arith, lt))

in_filter : {A : Type 0} (f : A → Bool) (xs : List A) (y : A) → Contains (filter f xs) y → Contains xs y
in_filter f [] y has = has
in_filter f (x ∷ xs) y has =
    let go : (b : Bool) → Contains (if b then x ∷ filter f xs else filter f xs) y → Contains (x ∷ xs) y = λ b.
    elim b as (λ b. Contains (if b then x ∷ filter f xs else filter f xs) y → Contains (x ∷ xs) y) [
      | true ↦ λ has.
          elim (Contains-append_cases (x ∷ []) (filter f xs) y has) [
            | inl here ↦ Contains-append_left (x ∷ []) xs y here
            | inr behind ↦ Contains-append_right (x ∷ []) xs y (in_filter f xs y behind)
          ]
      | false ↦ λ has. Contains-append_right (x ∷ []) xs y (in_filter f xs y has)
    ] in
    go (f x) has

-- Which pages are listed

listed_from : (changes : List RedoRange) (p : Pair) → Contains (pages_of changes) p → (c : RedoRange) × Contains changes c × (page_of c ≡ p)
listed_from [] p has = absurd (omega (arith, has.1))
listed_from (c ∷ cs) p has =
    elim (Contains-append_cases (page_of c ∷ []) (filter (is_another (page_of c)) (pages_of cs)) p has) [
      | inl here ↦ (c, (0, omega arith, refl), in_one (page_of c) p here)
      | inr behind ↦
          let one = listed_from cs p (in_filter (is_another (page_of c)) (pages_of cs) p behind) in
          (one.0, Contains-append_right (c ∷ []) cs one.0 one.1, one.2)
    ]

listed : (changes : List RedoRange) (c : RedoRange) → Contains changes c → Contains (pages_of changes) (page_of c)
listed [] c has = absurd (omega (arith, has.1))
listed (d ∷ cs) c has =
    let own : Pair = page_of d in
    let others : List Pair = filter (is_another (page_of d)) (pages_of cs) in
    elim (Contains-append_cases (d ∷ []) cs c has) [
      | inl here ↦ (0, omega arith, ap page_of (in_one d c here))
      | inr behind ↦
          let one : Contains (pages_of cs) (page_of c) = listed cs c behind in
          (elim (cases_Bool (is_another (page_of d) (page_of c))) [
            | inl other ↦ Contains-append_right (page_of d ∷ []) (filter (is_another (page_of d)) (pages_of cs)) (page_of c) (contains-filter (is_another (page_of d)) (pages_of cs) one.0 (page_of c) other one.1 one.2)
            | inr same ↦ (0, omega arith, not_another (page_of d) (page_of c) same)
          ])
    ]

pub are_listed : (changes : List RedoRange) → AreListed changes
are_listed changes segment page = (
  (λ has. let one = listed_from changes (segment, page) has in (one.0, one.1, (ap (λ (x : Pair). x.0) one.2, ap (λ (x : Pair). x.1) one.2))),
  (λ of.
      let same : page_of of.0 ≡ (segment, page) = same_pair (page_of of.0) (segment, page) of.2.0 of.2.1 in
      subst (λ (p : Pair). Contains (pages_of changes) p) same (listed changes of.0 of.1)),
)

-- Each once

differ-filter : (f : Pair → Bool) (ps : List Pair) → AreDifferent ps → AreDifferent (filter f ps)
differ-filter f [] differ = tt
differ-filter f (p ∷ ps) differ =
    elim (f p) as (λ b. AreDifferent (if b then p ∷ filter f ps else filter f ps)) [
      | true ↦ (All-filter f (λ q. p ≢ q) ps differ.0, differ-filter f ps differ.1)
      | false ↦ differ-filter f ps differ.1
    ]

pub are_different : (changes : List RedoRange) → AreDifferent (pages_of changes)
are_different [] = tt
are_different (c ∷ cs) =
    let test : Pair → Bool = is_another (page_of c) in (
      All-weaker (λ q. is_another (page_of c) q ≡ true) (λ q. page_of c ≢ q) (another-differs (page_of c)) (filter test (pages_of cs)) (filter_passes test (pages_of cs)),
      differ-filter test (pages_of cs) (are_different cs),
    )

-- In order

later_page : (c d : RedoRange) → is_another (page_of c) (page_of d) ≡ true → c.segment ≡ d.segment → (c.page < d.page) ⊎ ((c.page ≡ d.page) × (c.seq ≤ d.seq))
    → IsPageBefore (page_of c) (page_of d)
later_page c d other segment (inl page) = inr (segment, page)
later_page c d other segment (inr same) = absurd (another-differs (page_of c) (page_of d) other (same_pair (page_of c) (page_of d) segment same.0))

page_before : (c d : RedoRange) → is_another (page_of c) (page_of d) ≡ true → IsBefore c d → IsPageBefore (page_of c) (page_of d)
page_before c d other (inl segment) = inl segment
page_before c d other (inr same) = later_page c d other same.0 same.1

ascend-filter : (f : Pair → Bool) (ps : List Pair) → ArePagesAscending ps → ArePagesAscending (filter f ps)
ascend-filter f [] ascend = tt
ascend-filter f (p ∷ ps) ascend =
    elim (f p) as (λ b. ArePagesAscending (if b then p ∷ filter f ps else filter f ps)) [
      | true ↦ (All-filter f (IsPageBefore p) ps ascend.0, ascend-filter f ps ascend.1)
      | false ↦ ascend-filter f ps ascend.1
    ]

pub are_ascending : (changes : List RedoRange) → AreAscending changes → ArePagesAscending (pages_of changes)
are_ascending [] ascend = tt
are_ascending (c ∷ cs) ascend =
    let test : Pair → Bool = is_another (page_of c) in
    let others : List Pair = filter test (pages_of cs) in (
      All-weaker (Contains others) (IsPageBefore (page_of c))
          (λ q has.
          let other : test q ≡ true = All-contains (λ (p : Pair). test p ≡ true) others q (filter_passes test (pages_of cs)) has in
          let among : Contains (pages_of cs) q = All-contains (Contains (pages_of cs)) others q (All-filter test (Contains (pages_of cs)) (pages_of cs) (All-contains_itself (pages_of cs))) has in
          let one = listed_from cs q among in
          subst (λ (p : Pair). test p ≡ true → IsPageBefore (page_of c) p) one.2
          (λ differs. page_before c one.0 differs (All-contains (IsBefore c) cs one.0 ascend.0 one.1)) other)
          others (All-contains_itself others),
      ascend-filter test (pages_of cs) (are_ascending cs ascend.1),
    )

-- The first page

others_stay : (first : RedoRange) (front rest : List RedoRange) → All (IsOf first.segment first.page) front → All (IsOfAnother first.segment first.page) rest
    → filter (is_another (page_of first)) (pages_of (front ++ rest)) ≡ pages_of rest
others_stay first [] rest here others =
    kept_all (is_another (page_of first)) (pages_of rest)
    (All-weaker (Contains (pages_of rest)) (λ p. is_another (page_of first) p ≡ true)
    (λ p has.
    let one = listed_from rest p has in
    is_another-differs (page_of first) p (λ same.
    All-contains (IsOfAnother first.segment first.page) rest one.0 others one.1 (ap (λ (x : Pair). x.0) (one.2 ∙ sym same), ap (λ (x : Pair). x.1) (one.2 ∙ sym same))))
    (pages_of rest) (All-contains_itself (pages_of rest)))
others_stay first (c ∷ front) rest here others =
    let of = All-head (IsOf first.segment first.page) c front here in
    let same : page_of c ≡ page_of first = same_pair (page_of c) (page_of first) of.0 of.1 in
    let test : Pair → Bool = is_another (page_of first) in
    let behind : List Pair = pages_of (front ++ rest) in
    let dropped : is_another (page_of first) (page_of c) ≡ false = ap (λ (p : Pair). is_another (page_of first) p) same ∙ itself-is_not (page_of first) in
    let twice : filter (is_another (page_of first)) (filter (is_another (page_of first)) (pages_of (front ++ rest))) ≡ filter (is_another (page_of first)) (pages_of (front ++ rest)) = kept_all test (filter test (pages_of (front ++ rest))) (filter_passes test (pages_of (front ++ rest))) in
    ap (λ (b : Bool). if b then page_of c ∷ filter test (filter (is_another (page_of c)) behind) else filter test (filter (is_another (page_of c)) behind)) dropped
    ∙ ap (λ (p : Pair). filter test (filter (is_another p) behind)) same
    ∙ twice
    ∙ others_stay first front rest (All-tail (IsOf first.segment first.page) c front here) others

drop_front : {A : Type 0} (xs ys : List A) → drop (length xs) (xs ++ ys) ≡ ys
drop_front [] ys = refl
drop_front (x ∷ xs) ys = drop_front xs ys

pub rest_is : (changes front : List RedoRange) (its : IsFirstPage changes front) → drop (length front) changes ≡ its.rest
rest_is changes front its = ap (λ (cs : List RedoRange). drop (length front) cs) its.whole ∙ drop_front front its.rest

first_of : (changes front rest : List RedoRange) (first : RedoRange) → changes ≡ front ++ rest → 1 ≤ length front → slice_get changes 0 ≡ Some first → All (IsOf first.segment first.page) front → All (IsOfAnother first.segment first.page) rest
    → pages_of changes ≡ page_of first ∷ pages_of rest
first_of changes [] rest first whole some is here others = absurd (omega (arith, some))
first_of changes (c ∷ front) rest first whole some is here others =
    let same : c ≡ first = same_Some c first (sym (ap (λ (cs : List RedoRange). slice_get cs 0) whole) ∙ is) in
    ap pages_of whole
    ∙ ap (λ (d : RedoRange). page_of d ∷ filter (is_another (page_of d)) (pages_of (front ++ rest))) same
    ∙ ap (λ (ps : List Pair). page_of first ∷ ps) (others_stay first front rest (All-tail (IsOf first.segment first.page) c front here) others)

has_first : (changes : List RedoRange) (first : RedoRange) → slice_get changes 0 ≡ Some first → 1 ≤ length changes
has_first [] first is = absurd cc
has_first (c ∷ cs) first is = omega arith

pub begin_with_the_first : (changes : List RedoRange) → BeginWithTheFirst changes
begin_with_the_first changes front first its is ascending =
    first_of changes front its.rest first its.whole (its.some (has_first changes first is)) is (its.of_first first is) (its.no_more first is ascending)
    ∙ ap (λ (cs : List RedoRange). page_of first ∷ pages_of cs) (sym (rest_is changes front its))

pub one_page_more : (changes front : List RedoRange) → IsFirstPage changes front → 1 ≤ length changes → AreAscending changes → length (pages_of changes) ≡ 1 + length (pages_of (drop (length front) changes))
one_page_more changes front its some ascending =
    let none : RedoRange = record { segment = 0; page = 0; seq = 0; log = 0; place = 0; words = 0; offset = 0; len = 0 } in
    let behind = pages_of (drop (length front) changes) in
    let count : length (page_of (get_or changes 0 none) ∷ behind) ≡ 1 + length behind = omega arith in
    ap (λ (ps : List Pair). length ps) (begin_with_the_first changes front (get_or changes 0 none) its (slice_get-get_or changes 0 none (omega (arith, some))) ascending) ∙ count

pub all_behind : (n : ℕ) (changes : List RedoRange) → take (length changes - n) (drop n changes) ≡ drop n changes
all_behind n changes = take_all (length changes - n) (drop n changes) (omega (arith, length-drop n changes))
