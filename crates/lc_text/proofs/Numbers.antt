-- Reading a number digit by digit.
use Rattle.std.proofs.Common.{◌≡◌, ℕ, ◌+◌, ◌-◌, ◌*◌, ◌<◌, ◌≤◌, ◌⊎◌, Bool, true, false, cond, ◌&&◌, nat_lt, nat_le, List, [], ◌∷◌, drop, length, get_or, Option, Some, None, Result, Ok, Err, refl, ap, arith, add-one, drop-cons}
use Rattle.std.specs.List.{list_all}
use Rattle.std.specs.Prelude.{option_and_then}
use Rattle.std.specs.Result.{OkIff, result_ok}
use Rattle.std.proofs.lemmas.List.{drop_all}
use Rattle.std.proofs.lemmas.Bool.{le-ltb, lt-ltb, ltb-false}
use Rattle.std.proofs.lemmas.Bool.Decides.{nat_tests}
use Rattle.std.proofs.Math.Bool.{and-false as and_false}
use Rattle.lc_text.specs.Line.{is_digit, value_after, number_after, number_of}

digit_yes : (b : ℕ) → 48 ≤ b → b ≤ 57 → is_digit b ≡ true
digit_yes b low high = grind (arith, nat_tests)

digit_no : (b : ℕ) → (b < 48) ⊎ (57 < b) → is_digit b ≡ false
digit_no b out = grind (arith, nat_tests)

pub at_digit : (limit n : ℕ) (word : List ℕ) (i : ℕ) → i < length word → 48 ≤ get_or word i 0 → get_or word i 0 ≤ 57
    → number_after limit n (drop i word) ≡ number_after limit (10 * n + (get_or word i 0 - 48)) (drop (i + 1) word)
unfolding number_after
at_digit limit n word i lt low high =
    let e = digit_yes (get_or word i 0) low high in
    rw (add-one, drop-cons word i 0, e) refl

pub at_other : (limit n : ℕ) (word : List ℕ) (i : ℕ) → i < length word → (get_or word i 0 < 48) ⊎ (57 < get_or word i 0)
    → number_after limit n (drop i word) ≡ None
unfolding number_after
at_other limit n word i lt out =
    let e = digit_no (get_or word i 0) out in
    rw (drop-cons word i 0, e) refl

grows : (n : ℕ) (digits : List ℕ) → n ≤ value_after n digits
grows n [] = omega arith
grows n (digit ∷ digits) = omega (arith, grows (10 * n + (digit - 48)) digits)

pub too_large : (limit n : ℕ) (digits : List ℕ) → limit ≤ n → number_after limit n digits ≡ None
unfolding number_after
too_large limit n digits large =
    let e : nat_lt (value_after n digits) limit ≡ false = le-ltb (value_after n digits) limit (omega (arith, grows n digits)) in
    rw (e, and_false (list_all is_digit digits)) refl

pub at_end : (limit n i : ℕ) (word : List ℕ) → length word ≤ i → n < limit → number_after limit n (drop i word) ≡ Some n
unfolding number_after
at_end limit n i word past small =
    let e = lt-ltb n limit small in
    rw (drop_all i word past, e) refl

-- the number, where it is below a smaller limit
abbrev pub below : ℕ → ℕ → Option ℕ
below limit n = cond (nat_lt n limit) (Some n) None

within : (small large v : ℕ) (b : Bool) → nat_lt v large ≡ b → small ≤ large → below small v ≡ option_and_then (below small) (cond b (Some v) None)
within small large v true e le = refl
within small large v false e le =
    let past = ltb-false v large e in
    let over : nat_lt v small ≡ false = le-ltb v small (omega arith) in
    rw over refl

narrow : (small large v : ℕ) (a b : Bool) → small ≤ large
    → cond a (cond (b && nat_lt v small) (Some v) None) None ≡ option_and_then (below small) (cond a (cond (b && nat_lt v large) (Some v) None) None)
narrow small large v false b le = refl
narrow small large v true false le = refl
narrow small large v true true le = within small large v (nat_lt v large) refl le

pub narrower : (small large : ℕ) (word : List ℕ) → small ≤ large → number_of small word ≡ option_and_then (below small) (number_of large word)
unfolding number_of number_after
narrower small large word le = narrow small large (value_after 0 word) (nat_le 1 (length word) && nat_le (length word) 20) (list_all is_digit word) le

pub narrow_none : (small large : ℕ) (word : List ℕ) → small ≤ large → number_of large word ≡ None → number_of small word ≡ None
narrow_none small large word le e = rw (narrower small large word le, e) refl

-- the number of a narrower type, where it fits
pub fits : {E : Type 0} (small large n : ℕ) (word : List ℕ) (r : Result ℕ E) → small ≤ large → number_of large word ≡ Some n → OkIff r (n < small) n
    → result_ok r ≡ number_of small word
fits small large n word (Ok x) le e h =
    let narrow = narrower small large word le in
    let small_enough = lt-ltb n small h.0 in
    rw (narrow, e, small_enough) (ap Some h.1)
fits small large n word (Err _) le e h =
    let narrow = narrower small large word le in
    let too_large = le-ltb n small (omega (arith, h)) in
    rw (narrow, e, too_large) refl

pub ruleset steps = (at_digit, at_other, too_large, at_end)
