-- Which records of a list of records the logs show, and how many of them pass a test.
use Rattle.std.proofs.Common.{◌≡◌, ◌⊎◌, ℕ, zero, suc, ◌+◌, ◌<◌, ◌≤◌, Bool, true, false, ◌==◌, nat_le, List, [], ◌∷◌, ◌++◌, length, filter, get_or, take, drop, flat_map, All, Contains, refl, ◌∙◌, ap, subst, arith, inl, inr, eqb-true, le_trans, length-append}
use Rattle.std.specs.Prelude.{slice_index_or, if◌then◌else◌}
use Rattle.std.proofs.Math.Nat.{le_refl}
use Rattle.std.proofs.lemmas.List.Elements.{All-nil, All-cons, All-head, All-tail, All-append, Contains-append_left, Contains-append_right, filter-append}
use Rattle.lc_record.specs.declared.record.Record.{Record}
use Rattle.lc_model.specs.Merging.{is_from}

-- Lists

pub contains-filter : {X : Type 0} (p : X → Bool) (xs : List X) (k : ℕ) (x : X) → p x ≡ true → k < length xs → get_or xs k x ≡ x → Contains (filter p xs) x
contains-filter p [] k x passes k_in is = absurd (omega arith)
contains-filter p (y ∷ ys) zero x passes k_in is =
    let own : p y ≡ true = ap p is ∙ passes in
    rw own (0, (omega arith), is)
contains-filter {X} p (y ∷ ys) (suc k) x passes k_in is =
    let behind : k < length ys = omega arith in
    let next : Contains (filter p ys) x = contains-filter p ys k x passes behind is in
    elim (p y) as (λ b. Contains (if b then y ∷ filter p ys else filter p ys) x) [
      | true ↦ Contains-append_right (y ∷ []) (filter p ys) x next
      | false ↦ next
    ]

pub contains-parts : {X : Type 0} (n : ℕ) (xs : List X) (k : ℕ) (x : X) → k < length xs → get_or xs k x ≡ x → Contains (take n xs) x ⊎ Contains (drop n xs) x
contains-parts zero xs k x k_in is = inr (k, k_in, is)
contains-parts (suc n) [] k x k_in is = absurd (omega arith)
contains-parts (suc n) (y ∷ ys) zero x k_in is = inl (0, (omega arith), is)
contains-parts (suc n) (y ∷ ys) (suc k) x k_in is =
    let behind : k < length ys = omega arith in
    elim (contains-parts n ys k x behind is) [
      | inl front ↦ inl (Contains-append_right (y ∷ []) (take n ys) x front)
      | inr back ↦ inr back
    ]

pub all-take-take : {X : Type 0} (P : X → Type 0) (a b : ℕ) (xs : List X) → All P (take a xs) → All P (take a (take b xs))
all-take-take P zero b xs all = All-nil P
all-take-take P (suc a) zero xs all = All-nil P
all-take-take P (suc a) (suc b) [] all = All-nil P
all-take-take P (suc a) (suc b) (x ∷ xs) all = All-cons P x (take a (take b xs)) (All-head P x (take a xs) all) (all-take-take P a b xs (All-tail P x (take a xs) all))

-- All logs

pub all-logs : (P : Record → Type 0) (logs : List (List Record)) → ((k : ℕ) → k < length logs → All P (get_or logs k [])) → All P (flat_map (λ log. log) logs)
all-logs P [] each = All-nil P
all-logs P (log ∷ logs) each =
    All-append P log (flat_map (λ log. log) logs) (each 0 (omega arith)) (all-logs P logs (λ k k_in. each (suc k) (omega arith)))

pub in-logs : (logs : List (List Record)) (k : ℕ) (r : Record) → k < length logs → Contains (get_or logs k []) r → Contains (flat_map (λ log. log) logs) r
in-logs [] k r k_in has = absurd (omega arith)
in-logs (log ∷ logs) zero r k_in has = Contains-append_left log (flat_map (λ log. log) logs) r has
in-logs (log ∷ logs) (suc k) r k_in has =
    let behind : k < length logs = omega arith in
    Contains-append_right log (flat_map (λ log. log) logs) r (in-logs logs k r behind has)

pub log-known : (logs : List (List Record)) (k : ℕ) (r : Record) → Contains (slice_index_or logs k []) r → k < length logs
log-known [] k r has = absurd (omega (arith, has.1))
log-known (log ∷ logs) zero r has = omega arith
log-known (log ∷ logs) (suc k) r has = (let behind : k < length logs = log-known logs k r has in omega (arith, behind))

contains-append : {X : Type 0} (xs ys : List X) (k : ℕ) (x : X) → k < length (xs ++ ys) → get_or (xs ++ ys) k x ≡ x → Contains xs x ⊎ Contains ys x
contains-append [] ys k x within same = inr (k, within, same)
contains-append (y ∷ xs) ys zero x within same = inl (0, (omega arith), same)
contains-append (y ∷ xs) ys (suc k) x within same =
    let behind : k < length (xs ++ ys) = omega arith in
    elim (contains-append xs ys k x behind same) [
      | inl front ↦ inl (Contains-append_right (y ∷ []) xs x front)
      | inr back ↦ inr back
    ]

pub log-of : (logs : List (List Record)) (r : Record) → Contains (flat_map (λ log. log) logs) r → (k : ℕ) × Contains (slice_index_or logs k []) r
log-of [] r has = absurd (omega (arith, has.1))
log-of (log ∷ logs) r has =
    elim (contains-append log (flat_map (λ log. log) logs) has.0 r has.1 has.2) [
      | inl here ↦ (0, here)
      | inr behind ↦ (let one : (k : ℕ) × Contains (slice_index_or logs k []) r = log-of logs r behind in (suc one.0, one.1))
    ]

-- Counting

pub count-cons : {X : Type 0} (p : X → Bool) (x : X) (xs : List X) → length (filter p xs) ≤ length (filter p (x ∷ xs))
count-cons {X} p x xs = elim (p x) as (λ b. length (filter p xs) ≤ length (if b then x ∷ filter p xs else filter p xs)) [ true ↦ omega arith | false ↦ omega arith ]

pub count-drop : {X : Type 0} (p : X → Bool) (n : ℕ) (xs : List X) → length (filter p (drop n xs)) ≤ length (filter p xs)
count-drop p zero xs = le_refl (length (filter p xs))
count-drop p (suc n) [] = omega arith
count-drop p (suc n) (x ∷ xs) = le_trans (count-drop p n xs) (count-cons p x xs)

count-filter : {X : Type 0} (p q : X → Bool) (xs : List X) → length (filter p (filter q xs)) ≤ length (filter p xs)
count-filter p q [] = omega arith
count-filter {X} p q (x ∷ xs) =
    let next : length (filter p (filter q xs)) ≤ length (filter p xs) = count-filter p q xs in
    elim (q x) as (λ b. length (filter p (if b then x ∷ filter q xs else filter q xs)) ≤ length (filter p (x ∷ xs))) [
      | true ↦ elim (p x) as (λ b. length (if b then x ∷ filter p (filter q xs) else filter p (filter q xs)) ≤ length (if b then x ∷ filter p xs else filter p xs)) [
        | true ↦ omega (arith, next)
        | false ↦ next
      ]
      | false ↦ le_trans next (count-cons p x xs)
    ]

abbrev from : ℕ → Record → Bool
from node r = nat_le node r.node

from-own : (node other : ℕ) → (other == node) ≡ true → (nat_le node other ≡ true) × (nat_le (suc node) other ≡ false)
from-own node other same =
    let is : other ≡ node = eqb-true other node same in
    grind (arith, is)

from-other : (node other : ℕ) → (other == node) ≡ false → nat_le (suc node) other ≡ nat_le node other
from-other node other differ = grind (arith, differ)

count-nodes : (p : Record → Bool) (node : ℕ) (rs : List Record) → length (filter p (filter (is_from node) rs)) + length (filter p (filter (from (suc node)) rs)) ≤ length (filter p (filter (from node) rs))
count-nodes p node [] = omega arith
count-nodes p node (r ∷ rs) =
    let next : length (filter p (filter (is_from node) rs)) + length (filter p (filter (from (suc node)) rs)) ≤ length (filter p (filter (from node) rs)) = count-nodes p node rs in
    let P : Type 0 = length (filter p (filter (is_from node) (r ∷ rs))) + length (filter p (filter (from (suc node)) (r ∷ rs))) ≤ length (filter p (filter (from node) (r ∷ rs))) in
    elim (r.node == node) as (λ b. (r.node == node) ≡ b → P) [
      | true ↦ λ same.
          let both : (nat_le node r.node ≡ true) × (nat_le (suc node) r.node ≡ false) = from-own node r.node same in
          rw (same, both.0, both.1)
          (elim (p r) as (λ b. length (if b then r ∷ filter p (filter (is_from node) rs) else filter p (filter (is_from node) rs)) + length (filter p (filter (from (suc node)) rs)) ≤ length (if b then r ∷ filter p (filter (from node) rs) else filter p (filter (from node) rs))) [
            | true ↦ omega (arith, next)
            | false ↦ next
          ])
      | false ↦ λ differ.
          let alike : nat_le (suc node) r.node ≡ nat_le node r.node = from-other node r.node differ in
          rw (differ, alike)
          (elim (nat_le node r.node) as (λ b. length (filter p (filter (is_from node) rs)) + length (filter p (if b then r ∷ filter (from (suc node)) rs else filter (from (suc node)) rs)) ≤ length (filter p (if b then r ∷ filter (from node) rs else filter (from node) rs))) [
            | true ↦ elim (p r) as (λ b. length (filter p (filter (is_from node) rs)) + length (if b then r ∷ filter p (filter (from (suc node)) rs) else filter p (filter (from (suc node)) rs)) ≤ length (if b then r ∷ filter p (filter (from node) rs) else filter p (filter (from node) rs))) [
              | true ↦ omega (arith, next)
              | false ↦ next
            ]
            | false ↦ next
          ])
    ] refl

logs-from : (p : Record → Bool) (rs : List Record) (node : ℕ) (logs : List (List Record)) → ((k : ℕ) → k < length logs → length (filter p (get_or logs k [])) ≤ length (filter p (filter (is_from (node + k)) rs))) → length (filter p (flat_map (λ log. log) logs)) ≤ length (filter p (filter (from node) rs))
logs-from p rs node [] each = omega arith
logs-from p rs node (log ∷ logs) each =
    let none : node + 0 ≡ node = omega arith in
    let first : length (filter p log) ≤ length (filter p (filter (is_from node) rs)) = subst (λ (n : ℕ). length (filter p log) ≤ length (filter p (filter (is_from n) rs))) none (each 0 (omega arith)) in
    let later : length (filter p (flat_map (λ log. log) logs)) ≤ length (filter p (filter (from (suc node)) rs)) =
    logs-from p rs (suc node) logs
    (λ k k_in.
    let next : node + suc k ≡ suc node + k = omega arith in
    subst (λ (n : ℕ). length (filter p (get_or logs k [])) ≤ length (filter p (filter (is_from n) rs))) next (each (suc k) (omega arith))) in
    let both : length (filter p (log ++ flat_map (λ log. log) logs)) ≡ length (filter p log) + length (filter p (flat_map (λ log. log) logs)) =
    ap length (filter-append p log (flat_map (λ log. log) logs)) ∙ length-append (filter p log) (filter p (flat_map (λ log. log) logs)) in
    omega (arith, first, later, both, count-nodes p node rs)

-- where each log shows no more than its node's records
pub logs-count : (p : Record → Bool) (rs : List Record) (logs : List (List Record)) → ((k : ℕ) → k < length logs → length (filter p (get_or logs k [])) ≤ length (filter p (filter (is_from k) rs))) → length (filter p (flat_map (λ log. log) logs)) ≤ length (filter p rs)
logs-count p rs logs each =
    le_trans
    (logs-from p rs 0 logs
    (λ k k_in.
    let same : k ≡ 0 + k = omega arith in
    subst (λ (n : ℕ). length (filter p (get_or logs k [])) ≤ length (filter p (filter (is_from n) rs))) same (each k k_in)))
    (count-filter p (from 0) rs)

pub none-pass : {X : Type 0} (p : X → Bool) (xs : List X) → All (λ x. p x ≡ false) xs → length (filter p xs) ≡ 0
none-pass p [] none = refl
none-pass {X} p (x ∷ xs) none =
    let first : p x ≡ false = All-head (λ (y : X). p y ≡ false) x xs none in
    rw first (none-pass p xs (All-tail (λ (y : X). p y ≡ false) x xs none))

pub contains-count : {X : Type 0} (p : X → Bool) (xs : List X) (x : X) → p x ≡ true → Contains xs x → 1 ≤ length (filter p xs)
contains-count p xs x passes has =
    let kept : Contains (filter p xs) x = contains-filter p xs has.0 x passes has.1 has.2 in
    let within : kept.0 < length (filter p xs) = kept.1 in
    omega (arith, within)
