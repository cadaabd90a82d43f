-- What one pass over the records tests is what is asked of their transactions.
use Rattle.std.proofs.Common.{◌≡◌, ◌⊎◌, ℕ, suc, true, false, ◌==◌, List, [], ◌∷◌, ◌++◌, filter, length, All, AllPairs, refl, sym, ◌∙◌, ap, subst, inl, inr, true≢false}
use Rattle.std.specs.Prelude.{nat_lt, if◌then◌else◌}
use Rattle.std.proofs.lemmas.Bool.{ltb-true, lt-ltb}
use Rattle.std.proofs.lemmas.List.{map-append}
use Rattle.std.proofs.lemmas.List.Elements.{All-nil, All-cons, All-head, All-tail}
use Rattle.std.proofs.lemmas.List.Kept.{AllPairs-cons}
use Rattle.lc_record.specs.Transaction.{Transaction, Meet, holds}
use Rattle.lc_record.specs.declared.geometry.Geometry.{Geometry}
use Rattle.lc_record.specs.declared.record.Record.{Record}
use Rattle.lc_record.proofs.LockLemmas.{meet_holds}
use Rattle.lc_record.proofs.ListLemmas.{true_from_or-false as or-none}
use Rattle.lc_model.specs.History.{Numbered, numbered, numbered_after, is_of}
use Rattle.lc_model.specs.Merging.{is_from}
use Rattle.lc_model.specs.Sound.{IsAcked, IsHereOrAcked}
use Rattle.lc_model.specs.State.{Place, At}
use Rattle.lc_model.proofs.Lists.{AllPairs-nil}
use Rattle.lc_rest.specs.Adopted.{transaction_of, history_of, count_from}
use Rattle.lc_rest.specs.Turns.{Turn, turns_of, has_lock, IsAtHome, Bars, AreBehind}
use Rattle.lc_rest.proofs.Standing.{transactions_of}
use Rattle.lc_rest.proofs.SoundState.{transactions-are}

-- the number of a transaction within its node is that of its record
pub count-same : (g : Geometry) (node : ℕ) (rs : List Record) → length (filter (is_of node) (transactions_of g rs)) ≡ count_from node rs
count-same g node [] = refl
count-same g node (r ∷ rs) = elim (r.node == node) as (λ b. length (if b then transaction_of g r ∷ filter (is_of node) (transactions_of g rs) else filter (is_of node) (transactions_of g rs)) ≡ length (if b then r ∷ filter (is_from node) rs else filter (is_from node) rs)) [
  | true ↦ ap suc (count-same g node rs)
  | false ↦ count-same g node rs
]

-- of a record in its turn and of its transaction with its number
abbrev Alike : Geometry → (ℕ → ℕ) → Turn → Numbered → Type 0
Alike g stable u x = (x.transaction ≡ transaction_of g u.whole) × (u.stable ≡ nat_lt x.number (stable x.transaction.node))

all-alike : (g : Geometry) (stable : ℕ → ℕ) (P : Turn → Type 0) (Q : Numbered → Type 0) → ((u : Turn) (x : Numbered) → Alike g stable u x → P u → Q x) → (before rs : List Record)
    → All P (turns_of stable before rs) → All Q (numbered_after (transactions_of g before) (transactions_of g rs))
all-alike g stable P Q turn before [] all = All-nil Q
all-alike g stable P Q turn before (r ∷ rs) all =
    let x : Numbered = record { transaction = transaction_of g r; number = length (filter (is_of r.node) (transactions_of g before)) } in
    let u : Turn = record { whole = r; stable = nat_lt (count_from r.node before) (stable r.node) } in
    let rest : List Numbered = numbered_after (transactions_of g before ++ transaction_of g r ∷ []) (transactions_of g rs) in
    let behind : All Q rest = subst (λ (bs : List Transaction). All Q (numbered_after bs (transactions_of g rs))) (map-append (transaction_of g) before (r ∷ []))
    (all-alike g stable P Q turn (before ++ r ∷ []) rs (All-tail P u (turns_of stable (before ++ r ∷ []) rs) all)) in
    All-cons Q x rest (turn u x (refl, ap (λ (n : ℕ). nat_lt n (stable r.node)) (sym (count-same g r.node before))) (All-head P u (turns_of stable (before ++ r ∷ []) rs) all)) behind

acked-stable : (g : Geometry) (stable : ℕ → ℕ) (u : Turn) (x : Numbered) → Alike g stable u x → u.stable ≡ true → IsAcked stable x
acked-stable g stable u x alike is = ltb-true x.number (stable x.transaction.node) (sym alike.1 ∙ is)

stable-acked : (g : Geometry) (stable : ℕ → ℕ) (u : Turn) (x : Numbered) → Alike g stable u x → IsAcked stable x → u.stable ≡ true
stable-acked g stable u x alike is = alike.1 ∙ lt-ltb x.number (stable x.transaction.node) is

held-lock : (g : Geometry) (r : Record) (t : Transaction) (segment : ℕ) → t ≡ transaction_of g r → holds t segment ≡ true → has_lock segment r ≡ true
held-lock g r t segment same held = or-none (has_lock segment r) (ap (λ (v : Transaction). holds v segment) (sym same) ∙ held)

pub home : (g : Geometry) (stable : ℕ → ℕ) (place : ℕ → Place) (rs : List Record) → All (IsAtHome place) (turns_of stable [] rs) → All (IsHereOrAcked place stable) (numbered (history_of g rs))
home g stable place rs all =
    subst (λ (ts : List Transaction). All (IsHereOrAcked place stable) (numbered_after [] ts)) (sym (transactions-are g rs))
    (all-alike g stable (IsAtHome place) (IsHereOrAcked place stable) (λ u x alike is segment held.
    elim u.stable as (λ b. u.stable ≡ b → (place segment ≡ At x.transaction.node) ⊎ IsAcked stable x) [
      | true ↦ λ e. inr (acked-stable g stable u x alike e)
      | false ↦ λ e. inl (is e segment (held-lock g u.whole x.transaction segment alike.0 held) ∙ ap (λ (t : Transaction). At t.node) (sym alike.0))
    ] refl) [] rs all)

abbrev Firstly : (ℕ → ℕ) → Numbered → Numbered → Type 0
Firstly stable x y = Meet x.transaction y.transaction → IsAcked stable y → IsAcked stable x

first-from : (g : Geometry) (stable : ℕ → ℕ) (before rs : List Record) → AreBehind (turns_of stable before rs) → AllPairs (Firstly stable) (numbered_after (transactions_of g before) (transactions_of g rs))
first-from g stable before [] are = AllPairs-nil (Firstly stable)
first-from g stable before (r ∷ rs) are =
    let x : Numbered = record { transaction = transaction_of g r; number = length (filter (is_of r.node) (transactions_of g before)) } in
    let u : Turn = record { whole = r; stable = nat_lt (count_from r.node before) (stable r.node) } in
    let alike : Alike g stable u x = (refl, ap (λ (n : ℕ). nat_lt n (stable r.node)) (sym (count-same g r.node before))) in
    let moved : (Q : List Numbered → Type 0) → Q (numbered_after (transactions_of g (before ++ r ∷ [])) (transactions_of g rs)) → Q (numbered_after (transactions_of g before ++ transaction_of g r ∷ []) (transactions_of g rs)) =
    λ Q is. subst (λ (bs : List Transaction). Q (numbered_after bs (transactions_of g rs))) (map-append (transaction_of g) before (r ∷ [])) is in
    AllPairs-cons (Firstly stable) x (numbered_after (transactions_of g before ++ transaction_of g r ∷ []) (transactions_of g rs))
    (moved (All (Firstly stable x)) (all-alike g stable (Bars u) (Firstly stable x) (λ v y same bars meet acked.
    elim u.stable as (λ b. u.stable ≡ b → IsAcked stable x) [
      | true ↦ λ e. acked-stable g stable u x alike e
      | false ↦ λ e.
          let both : (holds (transaction_of g r) meet.0 ≡ true) × (holds y.transaction meet.0 ≡ true) = meet_holds (transaction_of g r) y.transaction meet in
          absurd (true≢false (sym (stable-acked g stable v y same acked) ∙ bars e meet.0 (held-lock g r (transaction_of g r) meet.0 refl both.0) (held-lock g v.whole y.transaction meet.0 same.0 both.1)))
    ] refl) (before ++ r ∷ []) rs are.0))
    (moved (AllPairs (Firstly stable)) (first-from g stable (before ++ r ∷ []) rs are.1))

pub first : (g : Geometry) (stable : ℕ → ℕ) (rs : List Record) → AreBehind (turns_of stable [] rs) → AllPairs (Firstly stable) (numbered (history_of g rs))
first g stable rs are = subst (λ (ts : List Transaction). AllPairs (Firstly stable) (numbered_after [] ts)) (sym (transactions-are g rs)) (first-from g stable [] rs are)
