-- The list of what was reserved since the last recovery, and what a cut keeps of it.
use Rattle.std.specs.Prelude.{◌≡◌, ℕ, ◌+◌, Bool, true, false, not, ◌==◌, nat_lt, List, [], ◌∷◌, ◌++◌, map, length, filter, AllPairs, IsTrue, slice_index}
use Rattle.lc_record.specs.Content.{Content}
use Rattle.lc_record.specs.Transaction.{Transaction, effects, Meet}

-- a transaction that was reserved, and whether its record is closed
pub record Entry : Type 0 where
  pub transaction : Transaction
  pub closed : Bool

-- in the order in which they were reserved
abbrev pub History : Type 0
History = List Entry

-- the transactions of these entries
abbrev pub transactions : History → List Transaction
transactions history = map (λ e. e.transaction) history

-- what those that earlier recoveries kept, and then the history, make of the content at the start
abbrev pub value : Content → List Transaction → History → Content
value start earlier history = effects (earlier ++ transactions history) start

-- the transaction is of this node
abbrev pub is_of : ℕ → Transaction → Bool
is_of node t = t.node == node

-- a transaction, and how many of its node stand before it
pub record Numbered : Type 0 where
  pub transaction : Transaction
  pub number : ℕ

-- these transactions with their numbers, after those before
abbrev pub numbered_after : List Transaction → List Transaction → List Numbered
numbered_after before [] = []
numbered_after before (t ∷ ts) =
    record { transaction = t; number = length (filter (is_of t.node) before) }
    ∷ numbered_after (before ++ t ∷ []) ts

-- each transaction with its number within its node, from 0
abbrev pub numbered : History → List Numbered
numbered history = numbered_after [] (transactions history)

-- a number for each node
abbrev pub Cut : Type 0
Cut = List ℕ

-- it is among the first of its node that the cut has
abbrev pub is_kept : Cut → Numbered → Bool
is_kept cut x = nat_lt x.number (slice_index cut x.transaction.node)

-- those among the first cut(n) of their node n
abbrev pub kept : History → Cut → List Transaction
kept history cut = map (λ x. x.transaction) (filter (is_kept cut) (numbered history))

-- the others
abbrev pub rest : History → Cut → List Transaction
rest history cut = map (λ x. x.transaction) (filter (λ x. not (is_kept cut x)) (numbered history))

-- in this list the one stands before the other
pub record StandsBefore (xs : List Numbered) (x y : Numbered) : Type 0 where
  pub front : List Numbered
  pub between : List Numbered
  pub behind : List Numbered
  pub are : xs ≡ front ++ x ∷ (between ++ y ∷ behind)

-- of any two that meet, the one that stands before in the first list stands before in the second; each is known by its node and its
-- number there
abbrev pub KeepsOrder : List Transaction → List Transaction → Type 0
KeepsOrder ts us =
    AllPairs (λ x y. Meet x.transaction y.transaction → StandsBefore (numbered_after [] us) x y)
    (numbered_after [] ts)

-- whenever one stands before another, they meet and the later is kept, the earlier is kept too
abbrev pub IsClosed : History → Cut → Type 0
IsClosed history cut =
    AllPairs (λ x y. Meet x.transaction y.transaction → IsTrue (is_kept cut y) → IsTrue (is_kept cut x))
    (numbered history)

-- a node's part of the history
abbrev pub entries_of : ℕ → History → History
entries_of node history = filter (λ e. is_of node e.transaction) history

-- how many a node has reserved
abbrev pub reserved : ℕ → History → ℕ
reserved node history = length (entries_of node history)

-- how many marks stand in front of the first that is not set
abbrev pub leading : List Bool → ℕ
leading [] = 0
leading (true ∷ marks) = 1 + leading marks
leading (false ∷ marks) = 0

-- how many stand in a node's longest closed prefix
abbrev pub front : ℕ → History → ℕ
front node history = leading (map (λ e. e.closed) (entries_of node history))
