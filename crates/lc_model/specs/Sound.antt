-- What holds of every state that the machine comes to.
use Rattle.std.specs.Prelude.{◌≡◌, ℕ, ◌<◌, ◌≤◌, false, not, ◌⊎◌, List, ◌++◌, map, length, filter, replicate, All, AllPairs, IsTrue}
use Rattle.lc_record.specs.Transaction.{Transaction, IsWellFormed, Meet, holds}
use Rattle.lc_record.specs.Geometry.{segment_len}
use Rattle.lc_record.specs.declared.geometry.Geometry.{Geometry}
use Rattle.lc_model.specs.History.{Entry, Numbered, History, Cut, transactions, numbered, front}
use Rattle.lc_model.specs.State.{Place, At, Travelling, DownAt, State}
use Rattle.lc_model.specs.Stops.{MayCut}
use Rattle.lc_record.specs.Marks.{ranges, is_empty}

-- it is well formed and lies in the geometry
pub record IsProper (g : Geometry) (t : Transaction) : Type 0 where
  pub well : IsWellFormed t
  pub node_known : t.node < g.nodes
  pub thread_known : t.thread < g.threads
  pub segments_known : (segment : ℕ) → IsTrue (holds t segment) → (1 ≤ segment) × (segment ≤ g.segments)
  -- a mark for each byte of each segment
  pub shaped : map length t.marks ≡ replicate g.segments (segment_len g)
  -- as many ranges as a record may have
  pub few_ranges : ranges t.marks ≤ 64

-- those whose record is not closed
abbrev pub unclosed : History → List Transaction
unclosed history = map (λ e. e.transaction) (filter (λ e. not e.closed) history)

-- those that hold locks: the open ones, and those that are not closed
abbrev pub holders : State → List Transaction
holders s = s.running ++ unclosed s.history

-- they are of different threads, and neither has a lock that keeps the other out
pub record AreApart (t u : Transaction) : Type 0 where
  pub threads_differ : t.node ≡ u.node → t.thread ≡ u.thread → ⊥
  pub locks_differ : Meet t u → ⊥

-- where its segments' tokens are
abbrev pub IsHere : (ℕ → Place) → Transaction → Type 0
IsHere place t = (segment : ℕ) → IsTrue (holds t segment) → place segment ≡ At t.node

-- among the first ack(n) of its node n
abbrev pub IsAcked : (ℕ → ℕ) → Numbered → Type 0
IsAcked ack x = x.number < ack x.transaction.node

-- a token leaves a node only when all that the node reserved is acknowledged
abbrev pub IsHereOrAcked : (ℕ → Place) → (ℕ → ℕ) → Numbered → Type 0
IsHereOrAcked place ack x =
    (segment : ℕ) → IsTrue (holds x.transaction segment) → (place segment ≡ At x.transaction.node) ⊎ IsAcked ack x

-- so the earlier of two that meet is of the same node, or acknowledged
abbrev pub IsOrdered : (ℕ → ℕ) → Numbered → Numbered → Type 0
IsOrdered ack x y = Meet x.transaction y.transaction → (x.transaction.node ≡ y.transaction.node) ⊎ IsAcked ack x

-- of two that meet the earlier is closed
abbrev pub IsClosedBefore : Entry → Entry → Type 0
IsClosedBefore x y = Meet x.transaction y.transaction → IsTrue x.closed

-- a node of the geometry has the token, or none has it
abbrev pub IsPlace : Geometry → Place → Type 0
IsPlace g (At node) = node < g.nodes
IsPlace g Travelling = Unit {0}

pub record Sound (g : Geometry) (s : State) : Type 0 where
  -- every transaction is proper
  pub earlier_proper : All (IsProper g) s.earlier
  pub history_proper : All (IsProper g) (transactions s.history)
  pub running_proper : All (IsProper g) s.running
  -- each that was reserved set something
  pub earlier_set : All (λ t. is_empty t.marks ≡ false) s.earlier
  pub history_set : All (λ t. is_empty t.marks ≡ false) (transactions s.history)
  -- a thread has at most one that holds locks, and a segment has one that writes or any number that read
  pub apart : AllPairs AreApart (holders s)
  -- the tokens of what is locked are at the holder's node
  pub holders_here : All (IsHere s.place) (holders s)
  pub history_here : All (IsHereOrAcked s.place s.ack) (numbered s.history)
  -- the order of those that meet is safe from every cut
  pub ordered : AllPairs (IsOrdered s.ack) (numbered s.history)
  pub earlier_closed : AllPairs IsClosedBefore s.history
  -- only closed records are acknowledged
  pub acked : (node : ℕ) → s.ack node ≤ front node s.history
  -- a flush took closed records, and all that was acknowledged is among them
  pub taken : (node : ℕ) → 1 ≤ (s.flush node).steps → s.ack node ≤ (s.flush node).taken
  pub taken_closed : (node : ℕ) → 1 ≤ (s.flush node).steps → (s.flush node).taken ≤ front node s.history
  -- a flush has four steps, the last of which may have failed
  pub few_steps : (node : ℕ) → (s.flush node).steps ≤ 4
  pub places_known : (segment : ℕ) → IsPlace g (s.place segment)
  -- down, the cut is one that a stop may make
  pub down_cut : (cut : Cut) → s.phase ≡ DownAt cut → MayCut g s cut
