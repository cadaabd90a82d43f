-- The numbers of the records that a list of transactions stands for.
use Rattle.std.proofs.Common.{◌≡◌, ◌≢◌, ℕ, zero, suc, ◌+◌, ◌<◌, ◌≤◌, Bool, true, false, ◌==◌, List, [], ◌∷◌, map, length, filter, get_or, replicate, Some, None, is_some, All, AllPairs, Contains, refl, sym, ◌∙◌, ap, subst, arith, inl, inr, true≢false, eqb-true, ne_eqb, le_trans}
use Rattle.std.specs.Prelude.{if◌then◌else◌, max, slice_get}
use Rattle.std.proofs.Math.Nat.{max-le, le-max_left, le-max_right}
use Rattle.std.proofs.lemmas.Bool.{cases_lt}
use Rattle.std.proofs.lemmas.List.Elements.{All-nil, All-cons, All-head, All-tail, Contains-append_right}
use Rattle.lc_record.specs.Content.{Content, segment_of}
use Rattle.lc_record.specs.Transaction.{Transaction, all_set, effect}
use Rattle.lc_record.specs.declared.record.Record.{Record}
use Rattle.lc_record.specs.Recorded.{record_of, records_from, counted, locks_of, is_set}
use Rattle.lc_record.proofs.SegmentLemmas.{length-written_segment}
use Rattle.lc_record.specs.Newest.{number_or_zero, byte_of}
use Rattle.lc_record.proofs.ListLemmas.{slice_get_some as get-some}
use Rattle.lc_model.specs.Merging.{byte_at, sets, counted_all, Rises}
use Rattle.lc_model.proofs.Law.{AllPairs-head, AllPairs-tail}
use Rattle.lc_model.proofs.RecordBytes.{record-number, set-place}
use Rattle.lc_model.proofs.Merging.{record-final}
use Rattle.lc_model.specs.Merge.{greatest, has_number}
use Rattle.lc_model.specs.Recovered.{HasByte}
use Rattle.lc_model.proofs.Visible.{none-pass}

-- a number stands in at most one record
pub one-number : (segment seq : ℕ) (rs : List Record) → 0 < seq → AllPairs (Rises segment) rs → length (filter (has_number segment seq) rs) ≤ 1
one-number segment seq [] some rises = omega arith
one-number segment seq (r ∷ rs) some rises =
    let next : length (filter (has_number segment seq) rs) ≤ 1 = one-number segment seq rs some (AllPairs-tail (Rises segment) r rs rises) in
    elim (number_or_zero segment r.locks == seq) as (λ b. (number_or_zero segment r.locks == seq) ≡ b → length (if b then r ∷ filter (has_number segment seq) rs else filter (has_number segment seq) rs) ≤ 1) [
      | true ↦ λ has.
          let is : number_or_zero segment r.locks ≡ seq = eqb-true (number_or_zero segment r.locks) seq has in
          let none : length (filter (has_number segment seq) rs) ≡ 0 = none-pass (has_number segment seq) rs
          (λ k d k_in.
          let above : Rises segment r (get_or rs k d) = AllPairs-head (Rises segment) r rs rises k d k_in in
          let differ : number_or_zero segment (get_or rs k d).locks ≢ seq = λ e.
          (let first : 0 < number_or_zero segment r.locks = omega (arith, is) in
          let second : 0 < number_or_zero segment (get_or rs k d).locks = omega (arith, e) in
          let less : number_or_zero segment r.locks < number_or_zero segment (get_or rs k d).locks = above first second in
          omega (arith, less, is, e)) in
          ne_eqb (number_or_zero segment (get_or rs k d).locks) seq differ) in
          omega (arith, none)
      | false ↦ λ e. next
    ] refl

-- each number that was used stands in a record
pub has-record : (numbers : ℕ → ℕ) (content : Content) (ts : List Transaction) (segment seq : ℕ) → numbers segment < seq → seq ≤ counted_all numbers ts segment → (r : Record) × Contains (records_from numbers content ts) r × (number_or_zero segment r.locks ≡ seq)
has-record numbers content [] segment seq above within = absurd (omega arith)
has-record numbers content (t ∷ ts) segment seq above within =
    let r : Record = record_of numbers content t in
    let Has : Type 0 = (q : Record) × Contains (records_from numbers content (t ∷ ts)) q × (number_or_zero segment q.locks ≡ seq) in
    let behind : counted numbers t segment < seq → (q : Record) × Contains (records_from numbers content (t ∷ ts)) q × (number_or_zero segment q.locks ≡ seq) =
    λ further.
    let next : (q : Record) × Contains (records_from (counted numbers t) (effect t content) ts) q × (number_or_zero segment q.locks ≡ seq) = has-record (counted numbers t) (effect t content) ts segment seq further within in
    (next.0, Contains-append_right (record_of numbers content t ∷ []) (records_from (counted numbers t) (effect t content) ts) next.0 next.1, next.2) in
    elim (cases_lt (counted numbers t segment) seq) [
      | inl further ↦ behind further
      | inr here ↦
          let own : number_or_zero segment (locks_of numbers 1 t.marks) ≡ (if sets segment t then numbers segment + 1 else 0) = record-number numbers segment t in (
            record_of numbers content t,
            (0, (omega arith), refl),
            (elim (is_set (segment_of segment t.marks)) as (λ b. (number_or_zero segment (locks_of numbers 1 t.marks) ≡ (if b then numbers segment + 1 else 0)) → seq ≤ (if b then numbers segment + 1 else numbers segment) → number_or_zero segment (locks_of numbers 1 t.marks) ≡ seq) [
              | true ↦ λ is not_further. omega (arith, is, not_further, above)
              | false ↦ λ is not_further. absurd (omega (arith, not_further, above))
            ] own here),
          )
    ]

-- Shapes

pub part-length : {A B : Type 0} (segment : ℕ) (xs : List (List A)) (ys : List (List B)) → map length xs ≡ map length ys → length (segment_of segment xs) ≡ length (segment_of segment ys)
part-length segment [] [] same = refl
part-length segment [] (y ∷ ys) same = absurd cc
part-length segment (x ∷ xs) [] same = absurd cc
part-length zero (x ∷ xs) (y ∷ ys) same = refl
part-length (suc zero) (x ∷ xs) (y ∷ ys) same = (let first : length x ≡ length y = cc in first)
part-length (suc (suc i)) (x ∷ xs) (y ∷ ys) same =
    let others : map length xs ≡ map length ys = cc in
    part-length (suc i) xs ys others

pub part-replicate : {A : Type 0} (segment n k : ℕ) (xs : List (List A)) → map length xs ≡ replicate n k → 1 ≤ segment → segment ≤ n → length (segment_of segment xs) ≡ k
part-replicate zero n k xs same some within = absurd (omega arith)
part-replicate (suc i) zero k xs same some within = absurd (omega arith)
part-replicate (suc i) (suc n) k [] same some within = absurd cc
part-replicate (suc zero) (suc n) k (x ∷ xs) same some within = (let first : length x ≡ k = cc in first)
part-replicate (suc (suc i)) (suc n) k (x ∷ xs) same some within =
    let others : map length xs ≡ replicate n k = cc in
    let less : suc i ≤ n = omega arith in
    part-replicate (suc i) n k xs others (omega arith) less

pub length-shape : {A : Type 0} (n k : ℕ) (xs : List (List A)) → map length xs ≡ replicate n k → length xs ≡ n
length-shape zero k [] same = refl
length-shape zero k (x ∷ xs) same = absurd cc
length-shape (suc n) k [] same = absurd cc
length-shape (suc n) k (x ∷ xs) same =
    let others : map length xs ≡ replicate n k = cc in
    ap suc (length-shape n k xs others)

set-within : (marks : List Bool) (place : ℕ) → all_set place 1 marks ≡ true → place < length marks
set-within [] place set = absurd (true≢false (sym set))
set-within (mark ∷ marks) zero set = omega arith
set-within (mark ∷ marks) (suc place) set = (let behind : place < length marks = set-within marks place set in omega (arith, behind))

-- a record with a number of the segment has a byte of it
pub numbered-byte : (numbers : ℕ → ℕ) (content : Content) (segment n : ℕ) (ts : List Transaction) → length (segment_of segment content) ≡ n → All (λ (t : Transaction). length (segment_of segment t.marks) ≡ n) ts → All (HasByte segment n) (records_from numbers content ts)
numbered-byte numbers content segment n [] long marked = All-nil (HasByte segment n)
numbered-byte numbers content segment n (t ∷ ts) long marked =
    let Marked : Transaction → Type 0 = λ (u : Transaction). length (segment_of segment u.marks) ≡ n in
    let after : length (segment_of segment (effect t content)) ≡ n = length-written_segment segment t.writes content ∙ long in
    All-cons (HasByte segment n) (record_of numbers content t) (records_from (counted numbers t) (effect t content) ts)
    (λ some.
    let own : number_or_zero segment (locks_of numbers 1 t.marks) ≡ (if sets segment t then numbers segment + 1 else 0) = record-number numbers segment t in
    let set : sets segment t ≡ true =
    elim (sets segment t) as (λ b. (number_or_zero segment (locks_of numbers 1 t.marks) ≡ (if b then numbers segment + 1 else 0)) → b ≡ true) [
      | true ↦ λ is. refl
      | false ↦ λ is. absurd (omega (arith, is, some))
    ] own in
    let at : (place : ℕ) × (all_set place 1 (segment_of segment t.marks) ≡ true) = set-place (segment_of segment t.marks) set in
    let in_marks : at.0 < length (segment_of segment t.marks) = set-within (segment_of segment t.marks) at.0 at.1 in
    let here : length (segment_of segment t.marks) ≡ n = All-head Marked t ts marked in
    let within : at.0 < n = omega (arith, in_marks, here) in
    let in_bytes : at.0 < length (segment_of segment (effect t content)) = omega (arith, within, after) in
    let byte : (x : ℕ) × (byte_at segment at.0 (effect t content) ≡ Some x) = get-some (segment_of segment (effect t content)) at.0 in_bytes in
    let final : byte_of segment at.0 (record_of numbers content t).ranges ≡ Some byte.0 =
    record-final numbers content t segment at.0 ∙ ap (λ b. if b then byte_at segment at.0 (effect t content) else None) at.1 ∙ byte.1 in
    (at.0, within, ap is_some final))
    (numbered-byte (counted numbers t) (effect t content) segment n ts after (All-tail Marked t ts marked))

-- The greatest

pub greatest-at_most : {A : Type 0} (f : A → ℕ) (most : ℕ) (xs : List A) → ((k : ℕ) (x : A) → slice_get xs k ≡ Some x → f x ≤ most) → greatest (map f xs) ≤ most
greatest-at_most f most [] each = omega arith
greatest-at_most f most (x ∷ xs) each = max-le (each 0 x refl) (greatest-at_most f most xs (λ k y is. each (suc k) y is))

pub at_most-greatest : {A : Type 0} (f : A → ℕ) (xs : List A) (k : ℕ) (x : A) → slice_get xs k ≡ Some x → f x ≤ greatest (map f xs)
at_most-greatest f [] k x is = absurd cc
at_most-greatest f (y ∷ ys) zero x is =
    let same : y ≡ x = cc in
    subst (λ (z : _). f z ≤ max (f y) (greatest (map f ys))) same (le-max_left (f y) (greatest (map f ys)))
at_most-greatest f (y ∷ ys) (suc k) x is = le_trans (at_most-greatest f ys k x is) (le-max_right (f y) (greatest (map f ys)))

pub greatest-all : {A : Type 0} (f : A → ℕ) (most : ℕ) (xs : List A) → All (λ x. f x ≤ most) xs → greatest (map f xs) ≤ most
greatest-all f most [] all = omega arith
greatest-all {A} f most (x ∷ xs) all =
    let Within : A → Type 0 = λ y. f y ≤ most in
    max-le (All-head Within x xs all) (greatest-all f most xs (All-tail Within x xs all))

pub all-greatest : {A : Type 0} (f : A → ℕ) (xs : List A) → All (λ x. f x ≤ greatest (map f xs)) xs
all-greatest f [] = All-nil (λ x. f x ≤ 0)
all-greatest {A} f (x ∷ xs) =
    let Within : A → Type 0 = λ y. f y ≤ max (f x) (greatest (map f xs)) in
    All-cons Within x xs (le-max_left (f x) (greatest (map f xs)))
    (λ k d k_in. le_trans (all-greatest f xs k d k_in) (le-max_right (f x) (greatest (map f xs))))
