-- Of nodes that run: the pieces that a store is made of, and how they stand in it.
use Rattle.std.specs.Prelude.{◌≡◌, ℕ, List, length, replicate, Option}
use Rattle.lc_disk.specs.declared.area.Area.{Ghosts}
use Rattle.lc_record.specs.declared.geometry.Geometry.{Geometry}
use Rattle.lc_token.specs.declared.token.Token.{Token}
use Rattle.lc_desk.specs.Seat.{Free}
use Rattle.lc_events.specs.declared.node_state.NodeState.{NodeState}
use Rattle.lc_journal.specs.declared.node_piece.NodePiece.{NodePiece}
use Rattle.lc_desk.specs.declared.segment_piece.SegmentPiece.{SegmentPiece}
use Rattle.lc_desk.specs.Pieces.{AreMadeSlots}
use Rattle.lc_journal.specs.Pieces.{IsMadeJournal}

-- The nodes

module _ {D : Type 0} (a : Ghosts D) where
  -- a node of which no thread does anything
  pub record IsMadeNode (g : Geometry) (n : ℕ) (segments : List SegmentPiece) (tokens : List (Option Token)) (piece : NodePiece D a) (node : NodeState D a) : Type 0 where
    pub seats : node.desk.seats.items ≡ replicate g.threads Free
    pub count : length node.desk.here.slots.items ≡ g.segments
    pub slots : AreMadeSlots n segments tokens node.desk.here.slots.items
    pub room : node.journal.group.room ≡ g.words
    pub journal : (IsMadeJournal a) piece node.journal
    pub known : node.known ≡ piece.known
