-- Of the store: what the pieces of a store are that is built of the parts of a cluster at rest.
use Rattle.std.specs.Prelude.{◌≡◌, ℕ, ◌+◌, List, map, drop, length, Option, Some, slice_get, slice_index_or}
use Rattle.lc_disk.specs.declared.area.Area.{Ghosts}
use Rattle.lc_rest.specs.Passed.{Read, log_of}
use Rattle.lc_token.specs.declared.token.Token.{Token}
use Rattle.lc_journal.specs.Kept.{closed_record}
use Rattle.lc_rest.specs.declared.node_part.NodePart.{NodePart}
use Rattle.lc_journal.specs.declared.node_piece.NodePiece.{NodePiece}
use Rattle.lc_rest.specs.declared.parts.Parts.{Parts}
use Rattle.lc_rest.specs.declared.segment_part.SegmentPart.{SegmentPart}
use Rattle.lc_desk.specs.declared.segment_piece.SegmentPiece.{SegmentPiece}
use Rattle.lc_desk.specs.declared.segment_pieces.SegmentPieces.{SegmentPieces}
use Rattle.lc_reading.specs.Built.{IsPieceOf, IsSameArea}

module _ {D : Type 0} (a : Ghosts D) where
  -- the log and the records that no reset has dropped
  pub record IsNodePieceOf (h : Read) (n : ℕ) (part : NodePart D a) (piece : NodePiece D a) : Type 0 where
    pub log : piece.log ≡ part.log
    pub round : piece.round ≡ part.round
    pub known : piece.known ≡ part.known
    pub records : piece.records ≡ record { before = h.dropped n; records = map closed_record (drop (h.dropped n) (log_of h n)) }
    pub stable : piece.stable ≡ slice_index_or h.counts n 0

  pub record IsBuiltOf (parts : Parts D a) (h : Read) (segments : SegmentPieces) (tokens : List (Option Token)) (pieces : List (NodePiece D a)) (areas : List D) : Type 0 where
    pub geometry : segments.geometry ≡ parts.geometry
    pub nodes : (n : ℕ) (part : NodePart D a) (piece : NodePiece D a) → slice_get parts.nodes.items n ≡ Some part → slice_get pieces n ≡ Some piece → IsNodePieceOf h n part piece
    pub segments_are : (k : ℕ) (piece : SegmentPiece) → slice_get segments.pieces.items k ≡ Some piece → IsPieceOf h (k + 1) piece
    pub tokens_are : (k : ℕ) (part : SegmentPart D) (token : Option Token) → slice_get parts.segments.items k ≡ Some part → slice_get tokens k ≡ Some token → token ≡ Some part.token
    pub areas_are : (k : ℕ) (part : SegmentPart D) (area : D) → slice_get parts.segments.items k ≡ Some part → slice_get areas k ≡ Some area → (IsSameArea a) part.area area
    pub pieces_count : length pieces ≡ length parts.nodes.items
    pub tokens_count : length tokens ≡ length parts.segments.items
    pub areas_count : length areas ≡ length parts.segments.items
