-- Of nodes that run: what is shown of the log of a node, and what stays as it was.
use Rattle.std.specs.Prelude.{◌≡◌, ℕ, Bool, List, Option, Some, slice_get, slice_set, option_and_then}
use Rattle.lc_disk.specs.declared.area.Area.{Ghosts}
use Rattle.lc_journal.specs.Log.{area_of}
use Rattle.lc_journal.specs.declared.journal.Journal.{Journal}
use Rattle.lc_events.specs.declared.node_state.NodeState.{NodeState}
use Rattle.lc_events.specs.declared.running.Running.{Running}
use Rattle.lc_journal.specs.LogWords.{IsRead, StandsOn}

module _ {D : Type 0} (a : Ghosts D) where
  -- all of a journal but its log
  pub record IsSameJournal (old new : Journal D a) : Type 0 where
    pub group : new.group ≡ old.group
    pub words : new.words ≡ old.words
    pub records : new.records ≡ old.records
    pub dropped : new.dropped ≡ old.dropped
    pub trimmed : new.trimmed ≡ old.trimmed
    pub taken : new.taken ≡ old.taken
    pub acked : new.acked ≡ old.acked
    pub round : new.round ≡ old.round

  -- one of the nodes is as before, and so are the others
  pub record IsNodeKept (n : ℕ) (node : NodeState D a) (old new : Running D a) : Type 0 where
    pub now : NodeState D a
    pub geometry : new.geometry ≡ old.geometry
    pub nodes : new.nodes.items ≡ slice_set old.nodes.items n now
    pub travelling : new.travelling ≡ old.travelling
    pub desk : now.desk ≡ node.desk
    pub known : now.known ≡ node.known
    pub journal : IsSameJournal node.journal now.journal
    pub keeps : (StandsOn a) node.journal.log now.journal.log

  -- and the area of its log was read
  pub record IsNodeRead (n : ℕ) (node : NodeState D a) (area : D) (old new : Running D a) (failed : Bool) : Type 0 where
    pub kept : IsNodeKept n node old new
    pub next : D
    pub there : area_of a kept.now.journal.log ≡ Some next
    pub read : (IsRead a) area next failed

  -- the area of the log of one of the nodes
  abbrev pub log_in : List (NodeState D a) → ℕ → Option D
  log_in nodes node = option_and_then (λ (its : NodeState D a). area_of a its.journal.log) (slice_get nodes node)
