-- Of nodes that run: what it is that records are counted which every node has applied.
use Rattle.std.specs.Prelude.{◌≡◌, ℕ, Bool, List, map, nat_le, length, Some, slice_get}
use Rattle.std.specs.List.{list_all}
use Rattle.lc_disk.specs.declared.area.Area.{Ghosts}
use Rattle.lc_record.specs.Record.{IsRecord}
use Rattle.lc_record.specs.declared.record.Lock.{Lock}
use Rattle.lc_record.specs.declared.record.Record.{Record as Spelled}
use Rattle.lc_model.specs.History.{leading}
use Rattle.lc_model.specs.Sound.{Sound}
use Rattle.lc_model.specs.State.{Setting, State}
use Rattle.lc_journal.specs.Follows.{FitsJournal}
use Rattle.lc_settled.specs.Numbers.{Numbers, is_applied, published}
use Rattle.lc_desk.specs.Slots.{FitsSlots, besides_of}
use Rattle.lc_journal.specs.declared.journal.Journal.{Journal}
use Rattle.lc_events.specs.declared.node_state.NodeState.{NodeState}
use Rattle.lc_journal.specs.Trimming.{AreKnown, IsKnown}

-- every node has applied what the record locks
abbrev pub is_done : Setting → Numbers → Spelled → Bool
is_done m x r = list_all (is_applied m.geometry x) r.locks

module _ {D : Type 0} (a : Ghosts D) where
  -- these are the nodes, in their order, and what stands in the slots of each fits
  pub record AllFit (m : Setting) (nodes : List (NodeState D a)) (s : State) (x : Numbers) : Type 0 where
    pub all : m.geometry.nodes ≡ length nodes
    pub each : (k : ℕ) (node : NodeState D a) → slice_get nodes k ≡ Some node → FitsSlots m k (besides_of node.desk.here) s x

  -- the answer is that the node has applied the lock's segment up to its number
  abbrev pub TellsAppliedAt : NodeState D a → Lock → Bool → Type 0
  TellsAppliedAt node lock answer =
      (m : Setting) (k : ℕ) (s : State) (x : Numbers) → FitsSlots m k (besides_of node.desk.here) s x → IsKnown m lock
      → answer ≡ nat_le lock.seq (x.applied k lock.segment)

  -- that all of them have
  abbrev pub TellsApplied : List (NodeState D a) → Lock → Bool → Type 0
  TellsApplied nodes lock answer =
      (m : Setting) (s : State) (x : Numbers) → AllFit m nodes s x → IsKnown m lock → answer ≡ is_applied m.geometry x lock

  -- that they have for each lock of the record of these words
  abbrev pub TellsLocks : List (NodeState D a) → List ℕ → Bool → Type 0
  TellsLocks nodes words answer =
      (m : Setting) (s : State) (x : Numbers) (r : Spelled) → AllFit m nodes s x → IsRecord r words → AreKnown m r.locks → answer ≡ is_done m x r

  -- so many of the records that a journal has published are applied everywhere, from the first
  abbrev pub Counts : List (NodeState D a) → Journal D a → ℕ → Type 0
  Counts nodes w count =
      (m : Setting) (n : ℕ) (s : State) (x : Numbers) → Sound m.geometry s → FitsJournal a m n w s x → AllFit m nodes s x
      → count ≡ leading (map (is_done m x) (published m s x n))
