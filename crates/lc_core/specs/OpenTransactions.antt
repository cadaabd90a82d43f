-- Of the store: which transaction a thread has open, and how many threads there are.
use Rattle.std.specs.Prelude.{ℕ, Option, None, Some, slice_get}
use Rattle.lc_disk.specs.declared.area.Area.{Ghosts}
use Rattle.lc_tx.specs.declared.tx.Tx.{Tx}
use Rattle.lc_events.specs.declared.node_state.NodeState.{NodeState}
use Rattle.lc_core.specs.declared.world_phase.WorldPhase.{WorldPhase}
use Rattle.lc_core.specs.declared.world_phase.WorldPhase.TheVariants.{Down, Up, Taken}
use Rattle.lc_desk.specs.OpenTransactions.{open_at}

-- the one that a thread of the node has open; none where there is no such node
abbrev pub open_in_node : ℕ → {D : Type 0} {a : Ghosts D} → Option (NodeState D a) → Option Tx
open_in_node thread None = None
open_in_node thread (Some node) = open_at (slice_get node.desk.seats.items thread)

module _ {D : Type 0} (a : Ghosts D) where
  -- the one that a thread of a node has open in a store that is up
  abbrev pub open_transaction : WorldPhase D a → ℕ → ℕ → Option Tx
  open_transaction (Up up) node thread = open_in_node thread (slice_get up.running.nodes.items node)
  open_transaction (Down recovery) node thread = None
  open_transaction Taken node thread = None

  -- how many threads each node of a store has that is up; none of one that is down
  abbrev pub threads_of : WorldPhase D a → ℕ
  threads_of (Up up) = up.running.geometry.threads
  threads_of (Down recovery) = 0
  threads_of Taken = 0
