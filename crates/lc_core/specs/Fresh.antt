-- Of the store: what comes up after a recovery.
use Rattle.std.specs.Prelude.{◌≡◌, ◌≤◌, ℕ, ◌+◌, true, [], length, replicate, Some, None, slice_get}
use Rattle.lc_disk.specs.declared.area.Area.{Ghosts}
use Rattle.lc_page.specs.declared.page_text.PageText.{PageText}
use Rattle.lc_recover.specs.Recovered.{RecoveredStore, page_of}
use Rattle.lc_token.specs.KnownClean.{known as known_of}
use Rattle.lc_journal.specs.Log.{Stands, area_of, is_idle}
use Rattle.lc_events.specs.declared.node_state.NodeState.{NodeState}
use Rattle.lc_events.specs.declared.running.Running.{Running}
use Rattle.lc_desk.specs.Seat.{Free}
use Rattle.lc_desk.specs.declared.segment_copy.SegmentCopy.{SegmentCopy}
use Rattle.lc_desk.specs.Fresh.{IsFreshSlot}
use Rattle.lc_events.specs.Fresh.{known_first}

module _ {D : Type 0} where
  -- what the disk says of a page of a segment
  abbrev pub text_read_of : RecoveredStore D → ℕ → ℕ → PageText
  text_read_of r segment page = (page_of r segment page).text

module _ {D : Type 0} (a : Ghosts D) where
  -- a node of which no thread does anything, with an empty log
  pub record IsFreshNode (r : RecoveredStore D) (node : ℕ) (new : NodeState D a) : Type 0 where
    pub seats : new.desk.seats.items ≡ replicate r.geometry.threads Free
    pub slots_count : length new.desk.here.slots.items ≡ r.geometry.segments
    pub slots : (k : ℕ) (slot : SegmentCopy) → slice_get new.desk.here.slots.items k ≡ Some slot → IsFreshSlot r node (k + 1) slot
    pub log : Stands a new.journal.log 0 [] []
    pub works : is_idle a new.journal.log ≡ true
    pub area : area_of a new.journal.log ≡ slice_get r.areas node
    pub room : new.journal.group.room ≡ r.geometry.words
    pub records : new.journal.records ≡ record { before = 0; records = [] }
    pub dropped : new.journal.dropped ≡ 0
    pub trimmed : new.journal.trimmed ≡ 0
    pub taken : new.journal.taken ≡ 0
    pub acked : new.journal.acked ≡ 0
    pub round : new.journal.round ≡ 0
    pub known : (segment : ℕ) → 1 ≤ segment → segment ≤ r.geometry.segments → known_of new.known segment ≡ known_first r node segment

  -- and no token is on its way
  pub record IsFresh (r : RecoveredStore D) (w : Running D a) : Type 0 where
    pub geometry : w.geometry ≡ r.geometry
    pub count : length w.nodes.items ≡ r.geometry.nodes
    pub each : (n : ℕ) (node : NodeState D a) → slice_get w.nodes.items n ≡ Some node → IsFreshNode r n node
    pub travelling : w.travelling.items ≡ replicate r.geometry.segments None
