-- The state of the plain machine: transactions on flat bytes, one list of them, and no log.
use Rattle.std.specs.Prelude.{ℕ, ◌%◌, Bool, false, not, ◌&&◌, ◌||◌, ◌==◌, List, [], filter, find, map, replicate, Option, if◌then◌else◌}
use Rattle.std.specs.List.{list_any}
use Rattle.lc_record.specs.Content.{Content}
use Rattle.lc_record.specs.Transaction.{Transaction, locks, holds}
use Rattle.lc_record.specs.declared.geometry.Geometry.{Geometry}
use Rattle.lc_model.specs.History.{Entry, History, Cut}

-- where a segment's token is
pub data Place : Type 0 where
  At : (node : ℕ) → Place
  Travelling : Place

-- how many steps of a node's flush are done, 0 where none is under way, and how many records it took
pub record Flush : Type 0 where
  pub steps : ℕ
  pub taken : ℕ

-- up, or down with what the stop left of each node
pub data Phase : Type 0 where
  Up : Phase
  DownAt : (cut : Cut) → Phase

pub record State : Type 0 where
  -- those that earlier recoveries kept
  pub earlier : List Transaction
  -- those reserved since
  pub history : History
  -- how many of a node are acknowledged
  pub ack : ℕ → ℕ
  -- the open transactions
  pub running : List Transaction
  pub place : ℕ → Place
  pub halted : ℕ → Bool
  pub flush : ℕ → Flush
  pub phase : Phase

-- what does not change: the geometry, and the content at the start
pub record Setting : Type 0 where
  pub geometry : Geometry
  pub start : Content

-- the table with one entry changed
abbrev pub update : {A : Type 0} → (ℕ → A) → ℕ → A → ℕ → A
update table key item other = if other == key then item else table other

-- nothing has been done since a recovery that kept these
abbrev pub fresh : Geometry → List Transaction → Phase → State
fresh g earlier phase = record {
  earlier = earlier;
  history = [];
  ack = λ node. 0;
  running = [];
  place = λ segment. At (segment % g.nodes);
  halted = λ node. false;
  flush = λ node. record { steps = 0; taken = 0 };
  phase = phase;
}

-- down, with nothing kept
abbrev pub first_state : Geometry → State
first_state g = fresh g [] (DownAt (replicate g.nodes 0))

-- whose a transaction is
abbrev pub is_by : ℕ → ℕ → Transaction → Bool
is_by node thread t = (t.node == node) && (t.thread == thread)

-- the thread's open transaction
abbrev pub running_of : ℕ → ℕ → State → Option Transaction
running_of node thread s = find (is_by node thread) s.running

-- the open transactions but that of this thread
abbrev pub without : ℕ → ℕ → List Transaction → List Transaction
without node thread ts = filter (λ t. not (is_by node thread t)) ts

-- with this one in place of that of the same thread
abbrev pub with_changed : Transaction → List Transaction → List Transaction
with_changed t ts = map (λ u. if is_by t.node t.thread u then t else u) ts

-- reserved by the thread and not closed
abbrev pub is_unclosed : ℕ → ℕ → Entry → Bool
is_unclosed node thread e = not e.closed && is_by node thread e.transaction

-- the thread has a reservation that is not closed
abbrev pub has_unclosed : ℕ → ℕ → State → Bool
has_unclosed node thread s = list_any (is_unclosed node thread) s.history

-- one that has locks passes: an open one, or one that is not closed
abbrev pub some_holder : (Transaction → Bool) → State → Bool
some_holder passes s =
    list_any passes s.running || list_any (λ e. not e.closed && passes e.transaction) s.history

-- a transaction has the segment's lock
abbrev pub is_held : ℕ → State → Bool
is_held segment s = some_holder (λ t. holds t segment) s

-- one has it for writing
abbrev pub is_locked : ℕ → State → Bool
is_locked segment s = some_holder (λ t. locks t segment) s
