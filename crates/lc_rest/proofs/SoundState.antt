-- The state that a cluster at rest stands for is sound.
use Rattle.std.proofs.Common.{◌≡◌, ◌⊎◌, ℕ, suc, ◌+◌, ◌<◌, true, false, ◌==◌, List, [], ◌∷◌, map, filter, length, All, AllPairs, refl, sym, ◌∙◌, ap, subst, arith, inl, inr}
use Rattle.std.specs.Prelude.{IsTrue, if◌then◌else◌, slice_index_or}
use Rattle.std.proofs.lemmas.List.Elements.{All-nil, All-cons, All-head, All-tail}
use Rattle.lc_record.specs.Marks.{is_empty}
use Rattle.lc_record.specs.Transaction.{Transaction, Meet, holds}
use Rattle.lc_record.specs.declared.geometry.Geometry.{Geometry}
use Rattle.lc_record.specs.declared.record.Record.{Record}
use Rattle.lc_model.specs.History.{Entry, Numbered, transactions, numbered, entries_of, front, leading}
use Rattle.lc_model.specs.Merging.{is_from}
use Rattle.lc_model.specs.Sound.{Sound, IsProper, IsAcked, IsHereOrAcked, IsOrdered, AreApart, IsHere, unclosed}
use Rattle.lc_model.specs.State.{Place, At, Up, DownAt}
use Rattle.lc_model.proofs.Lists.{AllPairs-nil}
use Rattle.lc_record.proofs.LockLemmas.{meet_holds}
use Rattle.lc_rest.specs.Adopted.{transaction_of, history_of, state_of, count_from, IsTaken, AreTested}
use Rattle.lc_rest.proofs.Standing.{transactions_of, proper-own, set-own}

pub transactions-are : (g : Geometry) (rs : List Record) → transactions (history_of g rs) ≡ transactions_of g rs
transactions-are g [] = refl
transactions-are g (r ∷ rs) = ap (λ ts. transaction_of g r ∷ ts) (transactions-are g rs)

none-open : (g : Geometry) (rs : List Record) → unclosed (history_of g rs) ≡ []
none-open g [] = refl
none-open g (r ∷ rs) = none-open g rs

all-proper : (g : Geometry) (rs : List Record) → 0 < g.threads → All (IsTaken g) rs → All (λ (r : Record). r.node < g.nodes) rs → All (IsProper g) (transactions_of g rs)
all-proper g [] threads taken nodes = All-nil (IsProper g)
all-proper g (r ∷ rs) threads taken nodes =
    All-cons (IsProper g) (transaction_of g r) (transactions_of g rs)
    (proper-own g r (All-head (IsTaken g) r rs taken) (All-head (λ (r : Record). r.node < g.nodes) r rs nodes) threads)
    (all-proper g rs threads (All-tail (IsTaken g) r rs taken) (All-tail (λ (r : Record). r.node < g.nodes) r rs nodes))

all-set : (g : Geometry) (rs : List Record) → All (IsTaken g) rs → All (λ (t : Transaction). is_empty t.marks ≡ false) (transactions_of g rs)
all-set g [] taken = All-nil (λ (t : Transaction). is_empty t.marks ≡ false)
all-set g (r ∷ rs) taken =
    All-cons (λ (t : Transaction). is_empty t.marks ≡ false) (transaction_of g r) (transactions_of g rs) (set-own g r (All-head (IsTaken g) r rs taken)) (all-set g rs (All-tail (IsTaken g) r rs taken))

-- all that a node reserved is closed
pub front-all : (g : Geometry) (rs : List Record) (node : ℕ) → front node (history_of g rs) ≡ count_from node rs
front-all g [] node = refl
front-all g (r ∷ rs) node =
    elim (r.node == node) as (λ b. leading (map (λ (e : Entry). e.closed) (if b then record { transaction = transaction_of g r; closed = true } ∷ entries_of node (history_of g rs) else entries_of node (history_of g rs)))
    ≡ length (if b then r ∷ filter (is_from node) rs else filter (is_from node) rs)) [
      | true ↦ one (front node (history_of g rs)) (count_from node rs) (front-all g rs node)
      | false ↦ front-all g rs node
    ]
  where
    one : (a b : ℕ) → a ≡ b → 1 + a ≡ suc b
    one a b same = omega (arith, same)

at-place : (one other : ℕ) → At one ≡ At other → one ≡ other
at-place one other same = cc

all-closed : (g : Geometry) (rs : List Record) → All (λ (e : Entry). IsTrue e.closed) (history_of g rs)
all-closed g [] = All-nil (λ (e : Entry). IsTrue e.closed)
all-closed g (r ∷ rs) = All-cons (λ (e : Entry). IsTrue e.closed) (record { transaction = transaction_of g r; closed = true }) (history_of g rs) refl (all-closed g rs)

acked-cases : (stable : ℕ → ℕ) (x : Numbered) → IsAcked stable x ⊎ (IsAcked stable x → ⊥)
acked-cases stable x = cases x.number (stable x.transaction.node)
  where
    cases : (a b : ℕ) → (a < b) ⊎ ((a < b) → ⊥)
    cases a b = grind arith

-- of two that meet, neither acknowledged, the tokens of what they share are at both nodes
same-node : (place : ℕ → Place) (stable : ℕ → ℕ) (x y : Numbered) → IsHereOrAcked place stable x → IsHereOrAcked place stable y
    → (Meet x.transaction y.transaction → IsAcked stable y → IsAcked stable x) → IsOrdered stable x y
same-node place stable x y one two first meet = elim (acked-cases stable x) [
  | inl acked ↦ inr acked
  | inr open_x ↦
      let both : (holds x.transaction meet.0 ≡ true) × (holds y.transaction meet.0 ≡ true) = meet_holds x.transaction y.transaction meet in
      elim (one meet.0 both.0) [
        | inr acked ↦ inr acked
        | inl at_x ↦ elim (two meet.0 both.1) [
          | inl at_y ↦ inl (at-place x.transaction.node y.transaction.node (sym at_x ∙ at_y))
          | inr acked ↦ inr (first meet acked)
        ]
      ]
]

pub sound : (g : Geometry) (rs : List Record) (stable : ℕ → ℕ) (place : ℕ → Place) → AreTested g rs stable place → Sound g (state_of g rs stable place)
sound g rs stable place tested = record {
  earlier_proper = All-nil (IsProper g);
  history_proper = subst (λ (ts : List Transaction). All (IsProper g) ts) (sym (transactions-are g rs)) (all-proper g rs tested.threads tested.taken tested.nodes);
  running_proper = All-nil (IsProper g);
  earlier_set = All-nil (λ (t : Transaction). is_empty t.marks ≡ false);
  history_set = subst (λ (ts : List Transaction). All (λ (t : Transaction). is_empty t.marks ≡ false) ts) (sym (transactions-are g rs)) (all-set g rs tested.taken);
  apart = subst (λ (ts : List Transaction). AllPairs AreApart ts) (sym (none-open g rs)) (AllPairs-nil AreApart);
  holders_here = subst (λ (ts : List Transaction). All (IsHere place) ts) (sym (none-open g rs)) (All-nil (IsHere place));
  history_here = tested.here;
  ordered = λ i j d less most. same-node place stable (slice_index_or (numbered (history_of g rs)) i d) (slice_index_or (numbered (history_of g rs)) j d) (tested.here i d (omega (arith, less, most))) (tested.here j d most) (tested.first i j d less most);
  earlier_closed = λ i j d less most meet. all-closed g rs i d (omega (arith, less, most));
  acked = λ node. let few = tested.few node in let all = front-all g rs node in omega (arith, few, all);
  taken = λ node some. absurd (omega (arith, some));
  taken_closed = λ node some. absurd (omega (arith, some));
  few_steps = λ node. omega arith;
  places_known = tested.places;
  down_cut = λ cut down. absurd (up_not down);
}
  where
    up_not : {cut : List ℕ} → Up ≡ DownAt cut → ⊥
    up_not down = cc
