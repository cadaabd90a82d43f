-- Locks for writing and for reading, and the segments that are asked for as sets.
use Rattle.std.proofs.Common.{◌≡◌, ◌≢◌, ◌⊎◌, ℕ, zero, suc, ◌+◌, ◌<◌, ◌≤◌, Bool, true, false, ◌==◌, ◌&&◌, ◌||◌, List, [], ◌∷◌, ◌++◌, filter, refl, sym, ◌∙◌, ap, subst, arith, inl, inr, true≢false, eqb-true, eq-eqb, ne_eqb}
use Rattle.std.specs.Prelude.{if◌then◌else◌}
use Rattle.std.proofs.lemmas.Bool.{and_parts, and_from, or_cases, or_left, or_right, cases_order}
use Rattle.lc_record.specs.Transaction.{Transaction, is_member, locks, holds, Meet}
use Rattle.lc_record.specs.Marks.{counting, ascending}
use Rattle.lc_record.specs.declared.geometry.Geometry.{Geometry}

-- Two that meet

-- one of them locked the segment for writing, and the other for writing or for reading
pub meet_either : (t u : Transaction) (segment : ℕ) → ((locks t segment && holds u segment) || (holds t segment && locks u segment)) ≡ true
    → ((locks t segment ≡ true) × (holds u segment ≡ true)) ⊎ ((holds t segment ≡ true) × (locks u segment ≡ true))
meet_either t u segment h = elim (or_cases (locks t segment && holds u segment) (holds t segment && locks u segment) h) [
  | inl ours ↦ inl (and_parts (locks t segment) (holds u segment) ours)
  | inr theirs ↦ inr (and_parts (holds t segment) (locks u segment) theirs)
]

pub meet_left : (t u : Transaction) (segment : ℕ) → locks t segment ≡ true → holds u segment ≡ true → Meet t u
meet_left t u segment ours theirs = (segment, or_left (locks t segment && holds u segment) (holds t segment && locks u segment) (and_from (locks t segment) (holds u segment) ours theirs))

pub meet_right : (t u : Transaction) (segment : ℕ) → holds t segment ≡ true → locks u segment ≡ true → Meet t u
meet_right t u segment ours theirs = (segment, or_right (locks t segment && holds u segment) (holds t segment && locks u segment) (and_from (holds t segment) (locks u segment) ours theirs))

-- what is locked for writing is held
pub lock_holds : (t : Transaction) (segment : ℕ) → locks t segment ≡ true → holds t segment ≡ true
lock_holds t segment lock = or_left (locks t segment) (is_member segment t.reading) lock

pub meet_locks : (t u : Transaction) (segment : ℕ) → locks t segment ≡ true → locks u segment ≡ true → Meet t u
meet_locks t u segment ours theirs = meet_left t u segment ours (lock_holds u segment theirs)

-- both of them hold the segment in which they meet
pub meet_holds : (t u : Transaction) (meet : Meet t u) → (holds t meet.0 ≡ true) × (holds u meet.0 ≡ true)
meet_holds t u meet = elim (meet_either t u meet.0 meet.1) [
  | inl ours ↦ (lock_holds t meet.0 ours.0, ours.1)
  | inr theirs ↦ (theirs.0, lock_holds u meet.0 theirs.1)
]

pub meet_sides : (t u : Transaction) → Meet t u → Meet u t
meet_sides t u meet = elim (meet_either t u meet.0 meet.1) [
  | inl ours ↦ meet_right u t meet.0 ours.1 ours.0
  | inr theirs ↦ meet_left u t meet.0 theirs.1 theirs.0
]

-- of the same locks

pub locks_same : (t u : Transaction) (segment : ℕ) → t.locked ≡ u.locked → locks t segment ≡ true → locks u segment ≡ true
locks_same t u segment locked lock = subst (λ (l : List ℕ). is_member segment l ≡ true) locked lock

pub holds_same : (t u : Transaction) (segment : ℕ) → t.locked ≡ u.locked → t.reading ≡ u.reading → holds t segment ≡ true → holds u segment ≡ true
holds_same t u segment locked reading held = elim (or_cases (locks t segment) (is_member segment t.reading) held) [
  | inl lock ↦ lock_holds u segment (locks_same t u segment locked lock)
  | inr read ↦ or_right (locks u segment) (is_member segment u.reading) (subst (λ (l : List ℕ). is_member segment l ≡ true) reading read)
]

pub meet_same : (t u v : Transaction) → t.locked ≡ u.locked → t.reading ≡ u.reading → Meet t v → Meet u v
meet_same t u v locked reading meet = elim (meet_either t v meet.0 meet.1) [
  | inl ours ↦ meet_left u v meet.0 (locks_same t u meet.0 locked ours.0) ours.1
  | inr theirs ↦ meet_right u v meet.0 (holds_same t u meet.0 locked reading theirs.0) theirs.1
]

-- Members

pub member_first : (x : ℕ) (xs : List ℕ) → is_member x (x ∷ xs) ≡ true
member_first x xs = rw (eq-eqb x x refl) refl

pub member_left : (n : ℕ) (xs ys : List ℕ) → is_member n xs ≡ true → is_member n (xs ++ ys) ≡ true
member_left n [] ys e = absurd (true≢false (sym e))
member_left n (x ∷ xs) ys e = elim (or_cases (x == n) (is_member n xs) e) [
  | inl here ↦ or_left (x == n) (is_member n (xs ++ ys)) here
  | inr later ↦ or_right (x == n) (is_member n (xs ++ ys)) (member_left n xs ys later)
]

pub member_right : (n : ℕ) (xs ys : List ℕ) → is_member n ys ≡ true → is_member n (xs ++ ys) ≡ true
member_right n [] ys e = e
member_right n (x ∷ xs) ys e = or_right (x == n) (is_member n (xs ++ ys)) (member_right n xs ys e)

pub member_filter : (p : ℕ → Bool) (n : ℕ) (xs : List ℕ) → is_member n (filter p xs) ≡ true → (p n ≡ true) × (is_member n xs ≡ true)
member_filter p n [] e = absurd (true≢false (sym e))
member_filter p n (x ∷ xs) e =
    let behind : is_member n (filter p xs) ≡ true → (p n ≡ true) × (is_member n (x ∷ xs) ≡ true) =
    λ later. let both = member_filter p n xs later in (both.0, or_right (x == n) (is_member n xs) both.1) in
    elim (p x) as (λ b. p x ≡ b → is_member n (if b then x ∷ filter p xs else filter p xs) ≡ true → (p n ≡ true) × (is_member n (x ∷ xs) ≡ true)) [
      | true ↦ λ passes found. elim (or_cases (x == n) (is_member n (filter p xs)) found) [
        | inl here ↦ (ap p (sym (eqb-true x n here)) ∙ passes, or_left (x == n) (is_member n xs) here)
        | inr later ↦ behind later
      ]
      | false ↦ λ fails. behind
    ] refl e

-- Those that count up, filtered

pub counted_from : (p : ℕ → Bool) (from len n : ℕ) → is_member n (filter p (counting from len)) ≡ true → (from ≤ n) × (n < from + len) × (p n ≡ true)
counted_from p from zero n member = absurd (true≢false (sym member))
counted_from p from (suc len) n member =
    let next : is_member n (filter p (counting (from + 1) len)) ≡ true → (from ≤ n) × (n < from + suc len) × (p n ≡ true) =
    λ later. let are : (from + 1 ≤ n) × (n < from + 1 + len) × (p n ≡ true) = counted_from p (from + 1) len n later in (omega (arith, are.0), omega (arith, are.1), are.2) in
    elim (p from) as (λ b. p from ≡ b → is_member n (if b then from ∷ filter p (counting (from + 1) len) else filter p (counting (from + 1) len)) ≡ true → (from ≤ n) × (n < from + suc len) × (p n ≡ true)) [
      | true ↦ λ passes. elim (from == n) as (λ b. (from == n) ≡ b → (b || is_member n (filter p (counting (from + 1) len))) ≡ true → (from ≤ n) × (n < from + suc len) × (p n ≡ true)) [
        | true ↦ λ e here. let same : from ≡ n = eqb-true from n e in (omega (arith, same), omega (arith, same), ap p (sym same) ∙ passes)
        | false ↦ λ e later. next later
      ] refl
      | false ↦ λ fails. next
    ] refl member

pub is_counted : (p : ℕ → Bool) (from len n : ℕ) → from ≤ n → n < from + len → p n ≡ true → is_member n (filter p (counting from len)) ≡ true
is_counted p from zero n low high passes = absurd (omega (arith, low, high))
is_counted p from (suc len) n low high passes =
    elim (cases_order from n) [
      | inl same ↦
          let here : p from ≡ true = ap p same ∙ passes in
          rw (here, eq-eqb from n same) refl
      | inr either ↦ elim either [
        | inl less ↦
            let later : is_member n (filter p (counting (from + 1) len)) ≡ true = is_counted p (from + 1) len n (omega (arith, less)) (omega (arith, high)) passes in
            let differ : from ≢ n = omega (arith, less) in
            elim (p from) as (λ b. is_member n (if b then from ∷ filter p (counting (from + 1) len) else filter p (counting (from + 1) len)) ≡ true) [
              | true ↦ rw (ne_eqb from n differ) later
              | false ↦ later
            ]
        | inr more ↦ absurd (omega (arith, low, more))
      ]
    ]

-- the segments of a store that are among these
pub member_ascending : (g : Geometry) (segments : List ℕ) (n : ℕ) → is_member n (ascending g segments) ≡ true → ((1 ≤ n) × (n ≤ g.segments)) × (is_member n segments ≡ true)
member_ascending g segments n member =
    let are = counted_from (λ s. is_member s segments) 1 g.segments n member in
    ((are.0, omega (arith, are.1)), are.2)

pub ascending_member : (g : Geometry) (segments : List ℕ) (n : ℕ) → (1 ≤ n) × (n ≤ g.segments) → is_member n segments ≡ true → is_member n (ascending g segments) ≡ true
ascending_member g segments n within member = is_counted (λ s. is_member s segments) 1 g.segments n within.0 (omega (arith, within.1)) member
