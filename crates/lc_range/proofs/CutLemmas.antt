-- The first of the bytes that are kept.
use Rattle.std.proofs.Common.{◌≡◌, ℕ, zero, suc, ◌+◌, ◌-◌, ◌<◌, ◌≤◌, min, List, [], ◌∷◌, length, get_or, set, take, drop, refl, sym, ap, ◌∙◌, inl, inr, arith, length-take, length-drop}
use Rattle.std.proofs.lemmas.List.{take-take, drop-take, take_all, take_at, length-set}
use Rattle.std.specs.List.{refill}
use Rattle.std.proofs.lemmas.Bool.{cases_lt}
use Rattle.lc_range.specs.RangeSet.{total_len}
use Rattle.lc_range.specs.Undo.{OldBytes, bytes_kept, first_bytes}
use Rattle.lc_range.specs.Copies.{AreSome, AreCopies, copies_of, first_ranges}
use Rattle.lc_range.specs.declared.range.Range.{Range}

-- Ranges of the first positions

pub some_front : (n : ℕ) (xs : List Range) → AreSome xs → AreSome (take n xs)
some_front zero xs some = tt
some_front (suc n) [] some = tt
some_front (suc n) (x ∷ xs) some = (some.0, some_front n xs some.1)

some_first : (n : ℕ) (xs : List Range) → AreSome xs → AreSome (first_ranges n xs)
some_first zero xs some = tt
some_first (suc n) [] some = tt
some_first (suc n) (x ∷ xs) some = (omega (arith, some.0), some_first (suc n - x.len) xs some.1)

total_first : (n : ℕ) (xs : List Range) → total_len (first_ranges n xs) ≡ min n (total_len xs)
total_first zero xs = omega arith
total_first (suc n) [] = omega arith
total_first (suc n) (x ∷ xs) = omega (arith, total_first (suc n - x.len) xs)

pub all_first : (n : ℕ) (xs : List Range) → AreSome xs → total_len xs ≤ n → first_ranges n xs ≡ xs
all_first zero [] some all = refl
all_first (suc n) [] some all = refl
all_first zero (x ∷ xs) some all = absurd (omega (arith, some.0, all))
all_first (suc n) (x ∷ xs) some all =
    ap (λ (m : ℕ). record x { len = m } ∷ first_ranges (suc n - x.len) xs) (least (suc n) x.len (omega (arith, all))) ∙ ap (λ (l : List Range). x ∷ l) (all_first (suc n - x.len) xs some.1 (omega (arith, all)))
  where
    least : (m k : ℕ) → k ≤ m → min m k ≡ k
    least m k le = omega arith

no_ranges : (n : ℕ) → first_ranges n [] ≡ []
no_ranges zero = refl
no_ranges (suc n) = refl

pub last_len : (xs : List Range) (i : ℕ) (d : Range) → i + 1 ≡ length xs → total_len xs ≡ total_len (take i xs) + (get_or xs i d).len
last_len [] i d last = absurd (omega (arith, last))
last_len (x ∷ []) zero d last = omega arith
last_len (x ∷ y ∷ xs) zero d last = absurd (omega (arith, last))
last_len (x ∷ xs) (suc i) d last = omega (arith, last_len xs i d (omega (arith, last)))

pub one_at_least : (xs : List Range) → 1 ≤ total_len xs → 1 ≤ length xs
one_at_least [] some = absurd (omega (arith, some))
one_at_least (x ∷ xs) some = omega arith

-- without the last range
pub first_cut : (n : ℕ) (xs : List Range) (i : ℕ) → i + 1 ≡ length xs → n ≤ total_len (take i xs) → first_ranges n (take i xs) ≡ first_ranges n xs
first_cut n [] i last few = absurd (omega (arith, last))
first_cut zero (x ∷ xs) i last few = refl
first_cut (suc n) (x ∷ xs) zero last few = absurd (omega (arith, few))
first_cut (suc n) (x ∷ xs) (suc i) last few = ap (λ (l : List Range). record x { len = min (suc n) x.len } ∷ l) (first_cut (suc n - x.len) xs i (omega (arith, last)) (omega (arith, few)))

-- with a part of the last range
pub first_part : (n : ℕ) (xs : List Range) (i : ℕ) (d : Range) → i + 1 ≡ length xs → total_len (take i xs) < n → n ≤ total_len xs
    → set xs i (record (get_or xs i d) { len = n - total_len (take i xs) }) ≡ first_ranges n xs
first_part n [] i d last low high = absurd (omega (arith, last))
first_part zero (x ∷ xs) i d last low high = absurd (omega (arith, low))
first_part (suc n) (x ∷ []) zero d last low high =
    ap (λ (m : ℕ). record x { len = m } ∷ []) (least (suc n) x.len (omega (arith, high))) ∙ ap (λ (l : List Range). record x { len = min (suc n) x.len } ∷ l) (sym (no_ranges (suc n - x.len)))
  where
    least : (m k : ℕ) → m ≤ k → m - 0 ≡ min m k
    least m k le = omega arith
first_part (suc n) (x ∷ y ∷ xs) zero d last low high = absurd (omega (arith, last))
first_part (suc n) (x ∷ xs) (suc i) d last low high =
    ap (λ (m : ℕ). x ∷ set xs i (record (get_or xs i d) { len = m })) (less_one (suc n) x.len (total_len (take i xs)))
    ∙ ap (λ (l : List Range). x ∷ l) (first_part (suc n - x.len) xs i d (omega (arith, last)) (omega (arith, low)) (omega (arith, high)))
    ∙ ap (λ (m : ℕ). record x { len = m } ∷ first_ranges (suc n - x.len) xs) (least (suc n) x.len (omega (arith, low)))
  where
    less_one : (m k t : ℕ) → m - (k + t) ≡ m - k - t
    less_one m k t = omega arith

    least : (m k : ℕ) → k ≤ m → k ≡ min m k
    least m k le = omega arith

-- Copies of the first bytes

pub are_first : (n : ℕ) (xs : List Range) (bytes : List ℕ) → AreCopies xs bytes → AreCopies (first_ranges n xs) (take n bytes)
are_first n xs bytes copies = record {
  some = some_first n xs copies.some;
  whole = omega (arith, length-take n bytes, total_first n xs, copies.whole);
}

pub copies_first : (n : ℕ) (xs : List Range) (bytes : List ℕ) → length bytes ≡ total_len xs → copies_of (first_ranges n xs) (take n bytes) ≡ first_bytes n (copies_of xs bytes)
copies_first zero xs bytes whole = refl
copies_first (suc n) [] bytes whole = refl
copies_first (suc n) (x ∷ xs) bytes whole =
    let m : ℕ = suc n in
    let long : length (take x.len bytes) ≡ x.len = omega (arith, length-take x.len bytes, whole) in
    ap (λ (l : List ℕ). record { segment = x.segment; offset = x.offset; bytes = l } ∷ copies_of (first_ranges (m - x.len) xs) (drop (min m x.len) (take m bytes))) (front m x.len bytes)
    ∙ ap (λ (l : List OldBytes). record { segment = x.segment; offset = x.offset; bytes = take m (take x.len bytes) } ∷ l)
    (rest m x.len xs bytes ∙ copies_first (m - x.len) xs (drop x.len bytes) (omega (arith, length-drop x.len bytes, whole)) ∙ ap (λ (k : ℕ). first_bytes (m - k) (copies_of xs (drop x.len bytes))) (sym long))
  where
    front : (m k : ℕ) (bytes : List ℕ) → take (min m k) (take m bytes) ≡ take m (take k bytes)
    front m k bytes = elim (cases_lt k m) [
      | inl less ↦ take-take (min m k) m bytes (omega arith) ∙ ap (λ (n : ℕ). take n bytes) (at_least m k (omega (arith, less))) ∙ sym (take_all m (take k bytes) (omega (arith, less, length-take k bytes)))
      | inr more ↦ take-take (min m k) m bytes (omega arith) ∙ ap (λ (n : ℕ). take n bytes) (at_most m k more) ∙ sym (take-take m k bytes more)
    ]
      where
        at_least : (m k : ℕ) → k ≤ m → min m k ≡ k
        at_least m k le = omega arith

        at_most : (m k : ℕ) → m ≤ k → min m k ≡ m
        at_most m k le = omega arith

    -- what is left of the bytes, where a range is not the last one
    rest : (m k : ℕ) (xs : List Range) (bytes : List ℕ) → copies_of (first_ranges (m - k) xs) (drop (min m k) (take m bytes)) ≡ copies_of (first_ranges (m - k) xs) (take (m - k) (drop k bytes))
    rest m k xs bytes = elim (cases_lt k m) [
      | inl less ↦ ap (λ (l : List ℕ). copies_of (first_ranges (m - k) xs) l) (behind m k bytes (omega (arith, less)))
      | inr more ↦
          ap (λ (n : ℕ). copies_of (first_ranges n xs) (drop (min m k) (take m bytes))) (spent m k more)
          ∙ sym (ap (λ (n : ℕ). copies_of (first_ranges n xs) (take (m - k) (drop k bytes))) (spent m k more))
    ]
      where
        spent : (m k : ℕ) → m ≤ k → m - k ≡ 0
        spent m k le = omega arith

        behind : (m k : ℕ) (bytes : List ℕ) → k ≤ m → drop (min m k) (take m bytes) ≡ take (m - k) (drop k bytes)
        behind m k bytes le =
            ap (λ (n : ℕ). drop n (take m bytes)) (omega arith) ∙ ap (λ (n : ℕ). drop k (take n bytes)) (whole_sum m k le) ∙ drop-take k (m - k) bytes
          where
            whole_sum : (m k : ℕ) → k ≤ m → m ≡ k + (m - k)
            whole_sum m k le = omega arith

pub length_copies : (xs : List Range) (bytes : List ℕ) → length (copies_of xs bytes) ≡ length xs
length_copies [] bytes = refl
length_copies (x ∷ xs) bytes = ap suc (length_copies xs (drop x.len bytes))

pub bytes_in : (xs : List Range) (bytes : List ℕ) → length bytes ≡ total_len xs → bytes_kept (copies_of xs bytes) ≡ total_len xs
bytes_in [] bytes whole = refl
bytes_in (x ∷ xs) bytes whole =
    omega (arith, length-take x.len bytes, whole, bytes_in xs (drop x.len bytes) (omega (arith, whole, length-drop x.len bytes)))

pub first_all : (n : ℕ) (xs : List Range) (bytes : List ℕ) → AreCopies xs bytes → length bytes ≤ n → first_bytes n (copies_of xs bytes) ≡ copies_of xs bytes
first_all n xs bytes copies all =
    sym (copies_first n xs bytes copies.whole) ∙ ap (λ (l : List ℕ). copies_of (first_ranges n xs) l) (take_all n bytes all)
    ∙ ap (λ (l : List Range). copies_of l bytes) (all_first n xs copies.some (omega (arith, copies.whole, all)))

-- as the list of a vector is written back
pub part_written : (n size end : ℕ) (xs base read : List Range) (i : ℕ) (d : Range) → base ≡ xs → read ≡ xs → size ≡ length xs → i + 1 ≡ length xs → end ≡ total_len xs
    → end - (get_or read i d).len < n → n ≤ end
    → refill size xs (set base i (record (get_or base i d) { len = n - (end - (get_or read i d).len) })) ≡ first_ranges n xs
part_written n size end xs base read i d same same_read long last total low high =
    let l : ℕ = (get_or read i d).len in
    let len : l ≡ (get_or xs i d).len = ap (λ (r : List Range). (get_or r i d).len) same_read in
    let start : end - l ≡ total_len (take i xs) = omega (arith, last_len xs i d last, len, total) in
    let new : List Range = set base i (record (get_or base i d) { len = n - (end - l) }) in
    take_at new (drop (length new) xs) size (length-set base i _ ∙ ap length same ∙ sym long)
    ∙ ap (λ (r : List Range). set r i (record (get_or r i d) { len = n - (end - l) })) same
    ∙ ap (λ (m : ℕ). set xs i (record (get_or xs i d) { len = n - m })) start
    ∙ first_part n xs i d last (omega (arith, start, low)) (omega (arith, total, high))
