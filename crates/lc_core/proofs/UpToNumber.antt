-- The bytes of a segment that records make of which each has the next numbers: those up to a number, and those above one.
use Rattle.std.proofs.Common.{◌≡◌, ℕ, suc, ◌+◌, ◌-◌, ◌≤◌, Bool, true, false, ◌||◌, ◌==◌, List, [], ◌∷◌, map, filter, take, All, Option, Some, None, refl, sym, ap, subst, ◌∙◌, arith, inl, inr, true≢false}
use Rattle.std.specs.Prelude.{nat_le, nat_lt, if◌then◌else◌}
use Rattle.std.specs.Option.{unwrap_or}
use Rattle.std.proofs.Math.Seq.{take-nil}
use Rattle.std.proofs.lemmas.Bool.{cases_lt, le-leb, le-ltb, lt-leb}
use Rattle.std.proofs.lemmas.List.Elements.{All-head, All-tail}
use Rattle.lc_record.specs.Content.{put}
use Rattle.lc_record.specs.Newest.{number_or_zero}
use Rattle.lc_record.specs.Part.{number_in}
use Rattle.lc_record.specs.Recorded.{counted}
use Rattle.lc_record.specs.Transaction.{is_member}
use Rattle.lc_record.specs.declared.geometry.Geometry.{Geometry}
use Rattle.lc_record.specs.declared.record.RangeData.{RangeData}
use Rattle.lc_record.specs.declared.record.Record.{Record}
use Rattle.lc_rest.specs.Adopted.{Follow, IsNext, IsTaken, transaction_of}
use Rattle.lc_rest.specs.Replay.{bytes_above, bytes_after, laid_on, number_after}
use Rattle.lc_rest.specs.Stable.{bytes_up_to}
use Rattle.lc_rest.specs.Turns.{has_lock}
use Rattle.lc_rest.proofs.Replays.{number-most}
use Rattle.lc_rest.proofs.Standing.{range-locks}
use Rattle.lc_rest.proofs.Tokens.{lock-number, next-number, number-lock}
use Rattle.lc_rest.proofs.Within.{sets-lock}

-- One record

none_laid : (segment : ℕ) (ranges : List RangeData) (bytes : List ℕ) → is_member segment (map (λ (l : RangeData). l.segment) ranges) ≡ false → laid_on segment ranges bytes ≡ bytes
none_laid segment [] bytes none = refl
none_laid segment (range ∷ ranges) bytes none = go (range.segment == segment) (none_laid segment ranges bytes) none
  where
    go : (b : Bool) → (is_member segment (map (λ (l : RangeData). l.segment) ranges) ≡ false → laid_on segment ranges bytes ≡ bytes) → (b || is_member segment (map (λ (l : RangeData). l.segment) ranges)) ≡ false
        → laid_on segment ranges (if b then put range.offset range.bytes bytes else bytes) ≡ bytes
    go true rest is = absurd (true≢false is)
    go false rest is = rest is

-- one with no lock on the segment leaves its bytes
unlocked_bytes : (g : Geometry) (r : Record) (segment : ℕ) (bytes : List ℕ) → IsTaken g r → has_lock segment r ≡ false → laid_on segment r.ranges bytes ≡ bytes
unlocked_bytes g r segment bytes taken free = none_laid segment r.ranges bytes (go (is_member segment (map (λ (l : RangeData). l.segment) r.ranges)) refl)
  where
    go : (b : Bool) → is_member segment (map (λ (l : RangeData). l.segment) r.ranges) ≡ b → is_member segment (map (λ (l : RangeData). l.segment) r.ranges) ≡ false
    go true is = absurd (true≢false (sym (range-locks r taken.canonical segment is) ∙ free))
    go false is = is

unlocked_number : (r : Record) (segment : ℕ) → has_lock segment r ≡ false → number_or_zero segment r.locks ≡ 0
unlocked_number r segment free = go (number_in segment r.locks) refl
  where
    go : (n : Option ℕ) → number_in segment r.locks ≡ n → unwrap_or n 0 ≡ 0
    go None is = refl
    go (Some n) is = absurd (true≢false (sym (number-lock segment r.locks n is) ∙ free))

locked_number : (numbers : ℕ → ℕ) (r : Record) (segment : ℕ) → IsNext numbers r → has_lock segment r ≡ true → number_or_zero segment r.locks ≡ numbers segment + 1
locked_number numbers r segment next held = (let its = lock-number segment r.locks held in ap (λ (n : Option ℕ). unwrap_or n 0) its.1 ∙ next-number numbers segment r.locks its.0 next its.1)

-- the number of the segment after it
number_behind : (g : Geometry) (r : Record) (numbers : ℕ → ℕ) (segment : ℕ) (b : Bool) → IsTaken g r → has_lock segment r ≡ b → counted numbers (transaction_of g r) segment ≡ (if b then numbers segment + 1 else numbers segment)
number_behind g r numbers segment b taken is = ap (λ (held : Bool). if held then numbers segment + 1 else numbers segment) (sets-lock g r segment taken ∙ is)

-- All of them

-- one record in front of others
module _ (g : Geometry) (segment number : ℕ) (r : Record) (rs : List Record) (numbers : ℕ → ℕ) (own : IsTaken g r) (next : IsNext numbers r) where
  abbrev others : List Record
  others = filter (has_lock segment) rs

  -- what is said of the others, from the numbers after it on
  abbrev AreUpTo : Type 0
  AreUpTo = (bytes : List ℕ) → bytes_up_to segment number rs bytes ≡ bytes_after segment (take (number - counted numbers (transaction_of g r) segment) others) bytes

  from_number : (n : ℕ) (bytes : List ℕ) → AreUpTo → counted numbers (transaction_of g r) segment ≡ n → bytes_up_to segment number rs bytes ≡ bytes_after segment (take (number - n) others) bytes
  from_number n bytes rest is = rest bytes ∙ ap (λ (k : ℕ). bytes_after segment (take (number - k) others) bytes) is

  one_up_to : (bytes : List ℕ) (b : Bool) → has_lock segment r ≡ b → AreUpTo
      → bytes_up_to segment number rs (if nat_le (number_or_zero segment r.locks) number then laid_on segment r.ranges bytes else bytes)
      ≡ bytes_after segment (take (number - numbers segment) (if b then r ∷ others else others)) bytes
  one_up_to bytes false is rest =
      let low : nat_le (number_or_zero segment r.locks) number ≡ true = le-leb (number_or_zero segment r.locks) number (let zero = unlocked_number r segment is in omega (arith, zero)) in
      ap (λ (b : Bool). bytes_up_to segment number rs (if b then laid_on segment r.ranges bytes else bytes)) low
      ∙ ap (bytes_up_to segment number rs) (unlocked_bytes g r segment bytes own is)
      ∙ from_number (numbers segment) bytes rest (number_behind g r numbers segment false own is)
  one_up_to bytes true is rest =
      let its = locked_number numbers r segment next is in
      let behind = number_behind g r numbers segment true own is in
      elim (cases_lt number (numbers segment + 1)) [
        | inl less ↦
            let high : nat_le (number_or_zero segment r.locks) number ≡ false = lt-leb (number_or_zero segment r.locks) number (omega (arith, its, less)) in
            let none : number - numbers segment ≡ 0 = omega (arith, less) in
            let none_later : number - (numbers segment + 1) ≡ 0 = omega (arith, less) in
            ap (λ (b : Bool). bytes_up_to segment number rs (if b then laid_on segment r.ranges bytes else bytes)) high
            ∙ from_number (numbers segment + 1) bytes rest behind
            ∙ ap (λ (k : ℕ). bytes_after segment (take k others) bytes) none_later
            ∙ ap (λ (k : ℕ). bytes_after segment (take k (r ∷ others)) bytes) (sym none)
        | inr more ↦
            let low : nat_le (number_or_zero segment r.locks) number ≡ true = le-leb (number_or_zero segment r.locks) number (omega (arith, its, more)) in
            let one_more : suc (number - (numbers segment + 1)) ≡ number - numbers segment = omega (arith, more) in
            ap (λ (b : Bool). bytes_up_to segment number rs (if b then laid_on segment r.ranges bytes else bytes)) low
            ∙ from_number (numbers segment + 1) (laid_on segment r.ranges bytes) rest behind
            ∙ ap (λ (k : ℕ). bytes_after segment (take k (r ∷ others)) bytes) one_more
      ]

  -- the number after the others is not above it
  abbrev NoneAbove : Type 0
  NoneAbove = (n : ℕ) → counted numbers (transaction_of g r) segment ≡ n → number_after segment rs n ≤ number → (bytes : List ℕ) → bytes_above segment number rs bytes ≡ bytes

  left : (bytes : List ℕ) → number_or_zero segment r.locks ≤ number → bytes_above segment number rs bytes ≡ bytes
      → bytes_above segment number rs (if nat_lt number (number_or_zero segment r.locks) then laid_on segment r.ranges bytes else bytes) ≡ bytes
  left bytes low is = ap (λ (b : Bool). bytes_above segment number rs (if b then laid_on segment r.ranges bytes else bytes)) (le-ltb number (number_or_zero segment r.locks) low) ∙ is

  one_above : (bytes : List ℕ) (b : Bool) → has_lock segment r ≡ b → NoneAbove → number_after segment rs (if b then numbers segment + 1 else numbers segment) ≤ number
      → bytes_above segment number rs (if nat_lt number (number_or_zero segment r.locks) then laid_on segment r.ranges bytes else bytes) ≡ bytes
  one_above bytes false is rest ends =
      left bytes (let zero = unlocked_number r segment is in omega (arith, zero)) (rest (numbers segment) (number_behind g r numbers segment false own is) ends bytes)
  one_above bytes true is rest ends =
      left bytes (let its = locked_number numbers r segment next is in let most = number-most segment rs (numbers segment + 1) 0 in omega (arith, its, most, ends))
      (rest (numbers segment + 1) (number_behind g r numbers segment true own is) ends bytes)

-- up to a number are so many of those that have a lock on the segment
pub up_to_number : (g : Geometry) (segment number : ℕ) (rs : List Record) (numbers : ℕ → ℕ) (bytes : List ℕ) → All (IsTaken g) rs → Follow g numbers rs
    → bytes_up_to segment number rs bytes ≡ bytes_after segment (take (number - numbers segment) (filter (has_lock segment) rs)) bytes
up_to_number g segment number [] numbers bytes taken follow = ap (λ (l : List Record). bytes_after segment l bytes) (sym (take-nil (number - numbers segment)))
up_to_number g segment number (r ∷ rs) numbers bytes taken follow =
    one_up_to g segment number r rs numbers (All-head (IsTaken g) r rs taken) follow.0 bytes (has_lock segment r) refl
    (λ start. up_to_number g segment number rs (counted numbers (transaction_of g r)) start (All-tail (IsTaken g) r rs taken) follow.1)

-- above the number after all of them there are none
pub none_above : (g : Geometry) (segment number : ℕ) (rs : List Record) (numbers : ℕ → ℕ) (bytes : List ℕ) → All (IsTaken g) rs → Follow g numbers rs → number_after segment rs (numbers segment) ≤ number
    → bytes_above segment number rs bytes ≡ bytes
none_above g segment number [] numbers bytes taken follow last = refl
none_above g segment number (r ∷ rs) numbers bytes taken follow last =
    one_above g segment number r rs numbers (All-head (IsTaken g) r rs taken) follow.0 bytes (has_lock segment r) refl
    (λ n is ends start. none_above g segment number rs (counted numbers (transaction_of g r)) start (All-tail (IsTaken g) r rs taken) follow.1 (subst (λ (k : ℕ). number_after segment rs k ≤ number) (sym is) ends)) last
