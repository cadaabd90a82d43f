-- Of nodes that run: what a stop of a store would lose.
use Rattle.std.specs.Prelude.{ℕ, ◌-◌, ◌^◌, List, min}
use Rattle.std.specs.List.{sum_by}
use Rattle.lc_disk.specs.declared.area.Area.{Ghosts}
use Rattle.lc_journal.specs.Records.{closed_from}
use Rattle.lc_events.specs.declared.node_state.NodeState.{NodeState}
use Rattle.lc_events.specs.declared.unfinished.Unfinished.{Unfinished}
use Rattle.lc_desk.specs.Unfinished.{begun_in}

module _ {D : Type 0} (a : Ghosts D) where
  -- the commits of a node that are closed and not acknowledged
  abbrev pub commits_at : NodeState D a → ℕ
  commits_at node = closed_from node.journal.acked node.journal.records

  -- the transactions of a node that are begun, and neither aborted nor closed
  abbrev pub transactions_at : NodeState D a → ℕ
  transactions_at node = begun_in node.desk.seats.items

  -- those of all these nodes; more than 2^64 - 1 commits are counted as so many
  abbrev pub unfinished_at : List (NodeState D a) → Unfinished
  unfinished_at nodes = record {
    commits = min (2 ^ 64 - 1) (sum_by commits_at nodes);
    transactions = sum_by transactions_at nodes;
  }
