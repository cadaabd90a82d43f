-- A cluster at rest as it is read, and what is built of it.
use Rattle.std.specs.Prelude.{◌≡◌, ℕ, ◌+◌, List, map, Option, Some, slice_get}
use Rattle.std.specs.Global.{Vec}
use Rattle.lc_disk.specs.declared.area.Area.{Ghosts}
use Rattle.lc_rest.specs.Found.{Found}
use Rattle.lc_token.specs.declared.token.Token.{Token}
use Rattle.lc_core.specs.Adopting.{IsAdoptedUp}
use Rattle.lc_reading.specs.AsRead.{IsAsRead}
use Rattle.lc_reading.specs.Built.{IsPieceOf}
use Rattle.lc_core.specs.Made.{AreFound}
use Rattle.lc_reading.specs.ReadNodes.{AreReadNodes}
use Rattle.lc_reading.specs.Readings.{tests_of}
use Rattle.lc_journal.specs.declared.node_piece.NodePiece.{NodePiece}
use Rattle.lc_rest.specs.declared.parts.Parts.{Parts}
use Rattle.lc_core.specs.declared.read_cluster.ReadCluster.{ReadCluster}
use Rattle.lc_rest.specs.declared.segment_part.SegmentPart.{SegmentPart}
use Rattle.lc_desk.specs.declared.segment_piece.SegmentPiece.{SegmentPiece}
use Rattle.lc_desk.specs.declared.segment_pieces.SegmentPieces.{SegmentPieces}
use Rattle.lc_core.specs.declared.up.Up.{Up}

module _ {D : Type 0} (a : Ghosts D) where
  -- what each node knows as clean
  abbrev pub knowns_of : List (NodePiece D a) → List (List ℕ)
  knowns_of pieces = map (λ (piece : NodePiece D a). piece.known) pieces

  -- it is read of these parts
  pub record IsReadCluster (parts : Parts D a) (c : ReadCluster D a) : Type 0 where
    pub geometry : c.read.geometry ≡ parts.geometry
    pub nodes : AreReadNodes a parts.geometry.words parts.nodes.items (record { pieces = c.pieces; logs = c.read.logs; counts = c.read.counts; images = c.images })
    pub tokens : c.read.tokens.items ≡ map (λ (part : SegmentPart D). part.token) parts.segments.items
    pub holders : c.read.holders.items ≡ map (λ (part : SegmentPart D). part.holder) parts.segments.items
    pub areas : (k : ℕ) (part : SegmentPart D) (area : D) (bytes : Vec ℕ) → slice_get parts.segments.items k ≡ Some part → slice_get c.areas.items k ≡ Some area → slice_get c.read.areas.items k ≡ Some bytes
        → IsAsRead a part.area area bytes.items

  -- a store that is built of it, where the records follow one another in these turns
  pub record IsBuilt (c : ReadCluster D a) (turns : List ℕ) (up : Up D a) : Type 0 where
    pub contents : SegmentPieces
    pub tokens : List (Option Token)
    pub geometry : contents.geometry ≡ c.read.geometry
    pub made : (k : ℕ) (piece : SegmentPiece) → slice_get contents.pieces.items k ≡ Some piece → IsPieceOf (tests_of c.read turns) (k + 1) piece
    pub tokens_are : tokens ≡ map (λ (token : Token). Some token) c.read.tokens.items
    pub adopted : (f : Found) → AreFound a f contents tokens c.pieces.items c.areas.items → IsAdoptedUp a f up
