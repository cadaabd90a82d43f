-- On lists, options, truth values, results and numbers: what several crates want and std has not.
use Rattle.std.proofs.Common.{◌≡◌, ◌⊎◌, inl, inr, ℕ, zero, suc, ◌+◌, ◌-◌, ◌<◌, ◌≤◌, Bool, true, false, ◌||◌, List, [], ◌∷◌, ◌++◌, length, map, take, drop, get_or, set, Option, Some, None, Result, Ok, Err, refl, sym, ap, subst, ◌∙◌, arith}
use Rattle.std.proofs.lemmas.Bool.{true≢false}
use Rattle.std.proofs.lemmas.List.{drop-drop, get_or-map, length-drop, length-map}
use Rattle.std.proofs.lemmas.List.Elements.{All-cons, All-head, All-more, All-nil, All-tail}
use Rattle.std.proofs.lemmas.Option.{get_or_from_slice_get, none-some, same_Some, slice_get-get_or, slice_get-map, slice_get_within}
use Rattle.std.specs.Option.{option_or}
use Rattle.std.specs.Prelude.{All, Contains, IfOk, IsSome, OnErr, OnOk, is_some, option_map, slice_get}
use Rattle.lc_record.specs.Marks.{counting}

-- Lists

-- each place of a list has an item
pub slice_get_some : {A : Type 0} (xs : List A) (k : ℕ) → k < length xs → (x : A) × (slice_get xs k ≡ Some x)
slice_get_some [] k within = absurd (omega (arith, within))
slice_get_some (x ∷ xs) zero within = (x, refl)
slice_get_some (x ∷ xs) (suc k) within = slice_get_some xs k (omega (arith, within))

pub slice_get-map_some : {A B : Type 0} (f : A → B) (xs : List A) (k : ℕ) (x : A) → slice_get xs k ≡ Some x → slice_get (map f xs) k ≡ Some (f x)
slice_get-map_some f xs k x is = slice_get-map f xs k ∙ ap (option_map f) is

-- what a mapped item came from
pub slice_get_from_map : {A B : Type 0} (f : A → B) (xs : List A) (k : ℕ) (y : B) → slice_get (map f xs) k ≡ Some y → (x : A) × (slice_get xs k ≡ Some x) × (f x ≡ y)
slice_get_from_map f [] k y is = absurd (none-some y is)
slice_get_from_map f (x ∷ xs) zero y is = (x, refl, same_Some (f x) y is)
slice_get_from_map f (x ∷ xs) (suc k) y is = slice_get_from_map f xs k y is

pub slice_get-append_left : {A : Type 0} (xs ys : List A) (k : ℕ) → k < length xs → slice_get (xs ++ ys) k ≡ slice_get xs k
slice_get-append_left [] ys k within = absurd (omega (arith, within))
slice_get-append_left (x ∷ xs) ys zero within = refl
slice_get-append_left (x ∷ xs) ys (suc k) within = slice_get-append_left xs ys k (omega (arith, within))

pub slice_get_push : {A : Type 0} (xs : List A) (y : A) → slice_get (xs ++ y ∷ []) (length xs) ≡ Some y
slice_get_push [] y = refl
slice_get_push (x ∷ xs) y = slice_get_push xs y

pub slice_get-take : {A : Type 0} (n k : ℕ) (xs : List A) → k < n → slice_get (take n xs) k ≡ slice_get xs k
slice_get-take zero k xs within = absurd (omega (arith, within))
slice_get-take (suc n) k [] within = refl
slice_get-take (suc n) zero (x ∷ xs) within = refl
slice_get-take (suc n) (suc k) (x ∷ xs) within = slice_get-take n k xs (omega (arith, within))

pub slice_get-drop : {A : Type 0} (n k : ℕ) (xs : List A) → slice_get (drop n xs) k ≡ slice_get xs (n + k)
slice_get-drop zero k xs = let same : 0 + k ≡ k = omega arith in ap (slice_get xs) (sym same)
slice_get-drop (suc n) k [] = refl
slice_get-drop (suc n) k (x ∷ xs) = let next : suc n + k ≡ suc (n + k) = omega arith in slice_get-drop n k xs ∙ ap (slice_get (x ∷ xs)) (sym next)

pub slice_get-set_same : {A : Type 0} (xs : List A) (k : ℕ) (x y : A) → slice_get xs k ≡ Some x → slice_get (set xs k y) k ≡ Some y
slice_get-set_same [] k x y is = absurd (none-some x is)
slice_get-set_same (z ∷ xs) zero x y is = refl
slice_get-set_same (z ∷ xs) (suc k) x y is = slice_get-set_same xs k x y is

pub slice_get-set_other : {A : Type 0} (xs : List A) (k j : ℕ) (y : A) → (j ≡ k → ⊥) → slice_get (set xs k y) j ≡ slice_get xs j
slice_get-set_other [] k j y differ = refl
slice_get-set_other (z ∷ xs) zero zero y differ = absurd (differ refl)
slice_get-set_other (z ∷ xs) zero (suc j) y differ = refl
slice_get-set_other (z ∷ xs) (suc k) zero y differ = refl
slice_get-set_other (z ∷ xs) (suc k) (suc j) y differ = slice_get-set_other xs k j y (λ e. differ (ap suc e))

pub set_behind : {A : Type 0} (all xs : List A) (i : ℕ) (y : A) → ((k : ℕ) → i ≤ k → slice_get xs k ≡ slice_get all k)
    → (k : ℕ) → i + 1 ≤ k → slice_get (set xs i y) k ≡ slice_get all k
set_behind all xs i y same k behind = slice_get-set_other xs i k y (λ here. omega (arith, behind, here)) ∙ same k (omega (arith, behind))

pub drop-take_same : {A : Type 0} (n : ℕ) (xs : List A) → drop n (take n xs) ≡ []
drop-take_same zero xs = refl
drop-take_same (suc n) [] = refl
drop-take_same (suc n) (x ∷ xs) = drop-take_same n xs

-- what is left of a list has some, its first is the next item of the list, and less is left once that was taken
pub left_some : {A : Type 0} (all left : List A) (n : ℕ) → left ≡ drop n all → n < length all → 0 < length left
left_some all left n is within = let long = ap length is ∙ length-drop n all in omega (arith, long, within)

pub left_first : {A : Type 0} (all left : List A) (n : ℕ) (x : A) → left ≡ drop n all → n < length all → x ≡ get_or left 0 x → slice_get all n ≡ Some x
left_first {A} all left n x is within first =
    let same : n + 0 ≡ n = omega arith in
    sym (ap (slice_get all) same) ∙ sym (slice_get-drop n 0 all) ∙ sym (ap (λ (l : List A). slice_get l 0) is) ∙ slice_get-get_or left 0 x (left_some all left n is within) ∙ ap (λ (y : A). Some y) (sym first)

pub left_more : {A : Type 0} (all left later : List A) (n : ℕ) → left ≡ drop n all → later ≡ drop 1 left → later ≡ drop (n + 1) all
left_more all left later n is next = next ∙ ap (drop 1) is ∙ drop-drop 1 n all

pub All-slice_get : {A : Type 0} (P : A → Type 0) (xs : List A) (k : ℕ) (x : A) → All P xs → slice_get xs k ≡ Some x → P x
All-slice_get P xs k x all is = subst P (get_or_from_slice_get xs k x x is) (all k x (slice_get_within xs k x is))

pub All-append_left : {A : Type 0} (P : A → Type 0) (xs ys : List A) → All P (xs ++ ys) → All P xs
All-append_left P [] ys all = All-nil P
All-append_left P (x ∷ xs) ys all = All-cons P x xs (All-head P x (xs ++ ys) all) (All-append_left P xs ys (All-tail P x (xs ++ ys) all))

pub All-append_right : {A : Type 0} (P : A → Type 0) (xs ys : List A) → All P (xs ++ ys) → All P ys
All-append_right P [] ys all = all
All-append_right P (x ∷ xs) ys all = All-append_right P xs ys (All-tail P x (xs ++ ys) all)

pub All-take_more : {A : Type 0} (P : A → Type 0) (xs : List A) (k : ℕ) (x : A) → slice_get xs k ≡ Some x → All P (take k xs) → P x → All P (take (k + 1) xs)
All-take_more P xs k x is all it = All-more P xs k x (slice_get_within xs k x is) all (subst P (sym (get_or_from_slice_get xs k x x is)) it)

-- what holds of each item at its place holds with one more
pub each_push : {A : Type 0} (P : ℕ → A → Type 0) (xs : List A) (y : A) → ((k : ℕ) (x : A) → slice_get xs k ≡ Some x → P k x) → P (length xs) y
    → (k : ℕ) (x : A) → slice_get (xs ++ y ∷ []) k ≡ Some x → P k x
each_push P [] y each it zero x got = subst (P zero) (same_Some y x got) it
each_push P [] y each it (suc k) x got = absurd cc
each_push P (z ∷ xs) y each it zero x got = each zero x got
each_push P (z ∷ xs) y each it (suc k) x got = each_push (λ j. P (suc j)) xs y (λ j w. each (suc j) w) it k x got

pub Contains-slice_get : {A : Type 0} (xs : List A) (k : ℕ) (x : A) → slice_get xs k ≡ Some x → Contains xs x
Contains-slice_get xs k x is = (k, slice_get_within xs k x is, get_or_from_slice_get xs k x x is)

pub Contains-map : {A B : Type 0} (f : A → B) (xs : List A) (x : A) → Contains xs x → Contains (map f xs) (f x)
Contains-map f xs x c = (c.0, rw length-map c.1, get_or-map f xs c.0 x (f x) c.1 ∙ ap f c.2)

pub length-counting : (from n : ℕ) → length (counting from n) ≡ n
length-counting from zero = refl
length-counting from (suc n) = ap suc (length-counting (from + 1) n)

pub counting_push : (from n : ℕ) → counting from (suc n) ≡ counting from n ++ (from + n) ∷ []
counting_push from zero = let same : from ≡ from + 0 = omega arith in ap (λ (k : ℕ). k ∷ []) same
counting_push from (suc n) =
    let same : (from + 1) + n ≡ from + suc n = omega arith in
    ap (λ (l : List ℕ). from ∷ l) (counting_push (from + 1) n ∙ ap (λ (k : ℕ). counting (from + 1) n ++ k ∷ []) same)

pub counting_push_zero : (n : ℕ) → counting 0 (n + 1) ≡ counting 0 n ++ n ∷ []
counting_push_zero n =
    let more : n + 1 ≡ suc n = omega arith in
    let same : 0 + n ≡ n = omega arith in
    ap (counting 0) more ∙ counting_push 0 n ∙ ap (λ (k : ℕ). counting 0 n ++ k ∷ []) same

-- Options

pub some_from_is_some : {A : Type 0} (o : Option A) → is_some o ≡ true → (x : A) × (o ≡ Some x)
some_from_is_some None some = absurd (true≢false (sym some))
some_from_is_some (Some x) some = (x, refl)

pub none_from_is_some : {A : Type 0} (o : Option A) → is_some o ≡ false → o ≡ None
none_from_is_some None none = refl
none_from_is_some (Some x) none = absurd (true≢false none)

pub none_from_not_some : {A : Type 0} (o : Option A) → (is_some o ≡ true → ⊥) → o ≡ None
none_from_not_some None never = refl
none_from_not_some (Some x) never = absurd (never refl)

pub none_not_some : {A : Type 0} (o : Option A) → o ≡ None → IsSome o → ⊥
none_not_some {A} o none some = true≢false (sym (subst (λ (x : Option A). IsSome x) none some))

pub cases_Option : {A : Type 0} (o : Option A) → (o ≡ None) ⊎ ((x : A) × (o ≡ Some x))
cases_Option None = inl refl
cases_Option (Some x) = inr (x, refl)

pub option_or-none : {A : Type 0} (o : Option A) → option_or o None ≡ o
option_or-none None = refl
option_or-none (Some x) = refl

pub option_or-some : {A : Type 0} (o p : Option A) → is_some o ≡ true → option_or o p ≡ o
option_or-some None p some = absurd (true≢false (sym some))
option_or-some (Some x) p some = refl

pub option_or_assoc : {A : Type 0} (o p q : Option A) → option_or (option_or o p) q ≡ option_or o (option_or p q)
option_or_assoc None p q = refl
option_or_assoc (Some x) p q = refl

pub option_or_left : {A : Type 0} (o p : Option A) → is_some o ≡ true → is_some (option_or o p) ≡ true
option_or_left None p some = absurd (true≢false (sym some))
option_or_left (Some x) p some = refl

pub option_or_right : {A : Type 0} (o p : Option A) → is_some p ≡ true → is_some (option_or o p) ≡ true
option_or_right None p some = some
option_or_right (Some x) p some = refl

pub option_or_cases : {A : Type 0} (o p : Option A) → is_some (option_or o p) ≡ true → (is_some o ≡ true) ⊎ (is_some p ≡ true)
option_or_cases None p some = inr some
option_or_cases (Some x) p some = inl refl

-- Truth values

pub same_Bool : (a b : Bool) → (a ≡ true → b ≡ true) → (b ≡ true → a ≡ true) → a ≡ b
same_Bool true b there back = sym (there refl)
same_Bool false true there back = back refl
same_Bool false false there back = refl

pub or_again : (a b : Bool) → (a || (a || b)) ≡ (a || b)
or_again true b = refl
or_again false b = refl

pub true_from_or-false : (b : Bool) → (b || false) ≡ true → b ≡ true
true_from_or-false true is = refl
true_from_or-false false is = is

-- Results

pub OnErr_from : {A E : Type 0} (r : Result A E) (P : Type 0) → P → OnErr r P
OnErr_from (Ok x) P holds = tt
OnErr_from (Err e) P holds = holds

pub OnOk_then : {A E P Q : Type 0} (r : Result A E) → OnOk r P → (P → Q) → OnOk r Q
OnOk_then (Ok x) given so = so given
OnOk_then (Err e) given so = tt

pub IfOk_both : {A E : Type 0} {P Q R : A → Type 0} (r : Result A E) → IfOk r P → IfOk r Q → ((x : A) → P x → Q x → R x) → IfOk r R
IfOk_both (Ok x) one two so = so x one two
IfOk_both (Err e) one two so = tt

-- Numbers

pub sub_suc : (n k : ℕ) → k < n → suc (n - (k + 1)) ≡ n - k
sub_suc n k less = omega (arith, less)

pub sub_none : (n k : ℕ) → n ≤ k → 0 ≡ n - k
sub_none n k past = omega (arith, past)
