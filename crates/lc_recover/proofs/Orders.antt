-- The numbers of all records in order.
use Rattle.std.proofs.Common.{◌≡◌, ℕ, suc, ◌+◌, ◌<◌, ◌≤◌, true, false, Some, List, [], ◌∷◌, ◌++◌, map, length, take, get_or, arith, refl, sym, ◌∙◌, ap, inl, inr, append_assoc, append-nil}
use Rattle.std.specs.Prelude.{slice_get}
use Rattle.std.specs.List.{AllPairs}
use Rattle.std.specs.List.Sorted.{IsSortedBy}
use Rattle.std.specs.Ordering.{nat_cmp, is_lt, ordering_then}
use Rattle.std.proofs.lemmas.Bool.{cases_order, lt-ltb, le-ltb, eq-eqb, true≢false}
use Rattle.std.proofs.lemmas.Cmp.{nat_cmp_total, on_total, then_total}
use Rattle.std.proofs.lemmas.List.{take_more, map-append, length-append}
use Rattle.std.proofs.lemmas.List.Concat.{flat_map-append}
use Rattle.std.proofs.lemmas.List.Sorted.{sorted_far, ranks_by}
use Rattle.std.proofs.lemmas.Option.{slice_get_within, get_or_from_slice_get}
use Rattle.lc_record.specs.declared.record.Lock.{Lock}
use Rattle.lc_record.specs.declared.record.Record.{Record}
use Rattle.lc_log.specs.InPlace.{records_in}
use Rattle.lc_recover.specs.Locks.{number_of, numbers_of, numbers_in, IsUpTo, AreInOrder}
use Rattle.lc_recover.specs.Reading.{placed_in}
use Rattle.lc_recover.specs.declared.lock_number.LockNumber.{LockNumber}
use Rattle.lc_recover.proofs.Walks.{placed-records}

-- The list

pub number-more : (locks : List Lock) (i : ℕ) (lock : Lock) (before items : List LockNumber) → slice_get locks i ≡ Some lock
    → items ≡ before ++ map number_of (take i locks) → items ++ number_of lock ∷ [] ≡ before ++ map number_of (take (i + 1) locks)
number-more locks i lock before items at is =
    let within : i < length locks = slice_get_within locks i lock at in
    let more : map number_of (take (i + 1) locks) ≡ map number_of (take i locks) ++ number_of lock ∷ [] =
    ap (map number_of) (take_more locks i lock within ∙ ap (λ (l : Lock). take i locks ++ l ∷ []) (get_or_from_slice_get locks i lock lock at))
    ∙ map-append number_of (take i locks) (lock ∷ []) in
    ap (λ (l : List LockNumber). l ++ number_of lock ∷ []) is ∙ append_assoc before (map number_of (take i locks)) (number_of lock ∷ []) ∙ ap (λ (l : List LockNumber). before ++ l) (sym more)

pub numbers-push : (before items : List LockNumber) (rs : List Record) (r : Record) → items ≡ before ++ numbers_in rs → items ++ numbers_of r ≡ before ++ numbers_in (rs ++ r ∷ [])
numbers-push before items rs r is =
    ap (λ (l : List LockNumber). l ++ numbers_of r) is
    ∙ append_assoc before (numbers_in rs) (numbers_of r)
    ∙ ap (λ (l : List LockNumber). before ++ l) (ap (λ (l : List LockNumber). numbers_in rs ++ l) (sym (append-nil (numbers_of r))) ∙ sym (flat_map-append numbers_of rs (r ∷ [])))

-- the numbers of what is seen and of what comes next are among all of them
pub numbers-fit : (words : List ℕ) (seen left behind : List (ℕ × Record)) (x : ℕ × Record) → placed_in words ≡ seen ++ left → left ≡ x ∷ behind
    → length (numbers_in (map (λ (y : ℕ × Record). y.1) seen)) + length (numbers_of x.1) ≤ length (numbers_in (records_in words))
numbers-fit words seen left behind x split next =
    let all : records_in words ≡ map (λ (y : ℕ × Record). y.1) seen ++ x.1 ∷ map (λ (y : ℕ × Record). y.1) behind =
    sym (placed-records 0 (records_in words)) ∙ ap (map (λ (y : ℕ × Record). y.1)) (split ∙ ap (λ (l : List (ℕ × Record)). seen ++ l) next) ∙ map-append (λ (y : ℕ × Record). y.1) seen (x ∷ behind) in
    let numbers : numbers_in (records_in words) ≡ numbers_in (map (λ (y : ℕ × Record). y.1) seen) ++ (numbers_of x.1 ++ numbers_in (map (λ (y : ℕ × Record). y.1) behind)) =
    ap numbers_in all ∙ flat_map-append numbers_of (map (λ (y : ℕ × Record). y.1) seen) (x.1 ∷ map (λ (y : ℕ × Record). y.1) behind) in
    omega (
      arith,
      ap (λ (l : List LockNumber). length l) numbers,
      length-append (numbers_in (map (λ (y : ℕ × Record). y.1) seen)) (numbers_of x.1 ++ numbers_in (map (λ (y : ℕ × Record). y.1) behind)),
      length-append (numbers_of x.1) (numbers_in (map (λ (y : ℕ × Record). y.1) behind)),
    )

-- Their order

is_lt-less : (s t m n : ℕ) → s < t → is_lt (ordering_then (nat_cmp s t) (nat_cmp m n)) ≡ true
is_lt-less s t m n less = rw (lt-ltb s t less) refl

is_lt-same : (s t m n : ℕ) → s ≡ t → m < n → is_lt (ordering_then (nat_cmp s t) (nat_cmp m n)) ≡ true
is_lt-same s t m n same less =
    let upto : t ≤ s = omega (arith, same) in
    rw (le-ltb s t upto, eq-eqb s t same, lt-ltb m n less) refl

upto : (a b : LockNumber) → is_lt (ordering_then (nat_cmp b.segment a.segment) (nat_cmp b.seq a.seq)) ≡ false → IsUpTo a b
upto a b h = elim (cases_order a.segment b.segment) [
  | inl same ↦ inr (
    same,
    elim (cases_order a.seq b.seq) [
      | inl equal ↦ omega (arith, equal)
      | inr apart ↦ (elim apart [
        | inl less ↦ omega (arith, less)
        | inr more ↦ absurd (true≢false (sym (is_lt-same b.segment a.segment b.seq a.seq (sym same) more) ∙ h))
      ])
    ],
  )
  | inr apart ↦ (elim apart [
    | inl less ↦ inl less
    | inr more ↦ absurd (true≢false (sym (is_lt-less b.segment a.segment b.seq a.seq more) ∙ h))
  ])
]

order-from_pairs : (ns : List LockNumber) → AllPairs IsUpTo ns → AreInOrder ns
order-from_pairs [] pairs = tt
order-from_pairs (n ∷ ns) pairs =
    ((λ k d within. pairs 0 (suc k) d (omega arith) (omega arith)), order-from_pairs ns (λ i j d less within. pairs (suc i) (suc j) d (omega arith) (omega arith)))

pub in-order : (ns : List LockNumber) → IsSortedBy (λ (a b : LockNumber). is_lt (ordering_then (nat_cmp a.segment b.segment) (nat_cmp a.seq b.seq))) ns → AreInOrder ns
in-order ns sorted = order-from_pairs ns (λ i j d less within. upto (get_or ns i d) (get_or ns j d)
    (sorted_far (λ (a b : LockNumber). is_lt (ordering_then (nat_cmp a.segment b.segment) (nat_cmp a.seq b.seq)))
    (ranks_by (then_total (on_total (λ (n : LockNumber). n.segment) nat_cmp_total) (on_total (λ (n : LockNumber). n.seq) nat_cmp_total)) (λ (n : LockNumber). n))
    ns sorted i j d (omega arith) within))
