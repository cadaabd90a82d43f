-- What is read of the nodes of a cluster at rest.
use Rattle.std.specs.Prelude.{◌≡◌, ℕ, List, [], ◌∷◌, ◌++◌, map, drop, All, length, Some, slice_get, slice_index_or}
use Rattle.lc_disk.specs.declared.area.Area.{Ghosts}
use Rattle.lc_log.specs.LogText.{IsWhole}
use Rattle.lc_record.specs.declared.record.Record.{Record}
use Rattle.lc_rest.specs.Merge.{logs_of}
use Rattle.lc_rest.specs.AtRest.{IsReadLog}
use Rattle.lc_journal.specs.Kept.{closed_record}
use Rattle.lc_journal.specs.Pieces.{IsNodePiece}
use Rattle.lc_reading.specs.declared.node_images.NodeImages.{NodeImages}
use Rattle.lc_rest.specs.declared.node_part.NodePart.{NodePart}
use Rattle.lc_journal.specs.declared.node_piece.NodePiece.{NodePiece}
use Rattle.lc_reading.specs.declared.read_node.ReadNode.{ReadNode}
use Rattle.lc_reading.specs.declared.read_nodes.ReadNodes.{ReadNodes}

module _ {D : Type 0} (a : Ghosts D) where
  abbrev pub images_of : NodePart D a → NodeImages
  images_of part = record { images = part.images; applied = part.applied }

  -- the node's piece, its records, of which so many are stable, and its images are those of the part
  pub record IsReadPart (words : ℕ) (part : NodePart D a) (piece : NodePiece D a) (rs : List Record) (count : ℕ) : Type 0 where
    pub log : piece.log ≡ part.log
    pub round : piece.round ≡ part.round
    pub known : piece.known ≡ part.known
    pub records : piece.records.records ≡ map closed_record (drop piece.records.before rs)
    pub stable : piece.stable ≡ count
    pub read : IsReadLog a part piece.records.before count rs
    pub fits : IsNodePiece a words piece
    pub whole : All IsWhole rs

  pub record IsReadNode (words : ℕ) (part : NodePart D a) (node : ReadNode D a) : Type 0 where
    pub part_is : IsReadPart words part node.piece node.records.items node.count
    pub images : node.images ≡ images_of part

  -- and so it is with all nodes
  pub record AreReadNodes (words : ℕ) (parts : List (NodePart D a)) (nodes : ReadNodes D a) : Type 0 where
    pub pieces_count : length nodes.pieces.items ≡ length parts
    pub logs_count : length nodes.logs.items ≡ length parts
    pub counts_count : length nodes.counts.items ≡ length parts
    pub each : (n : ℕ) (part : NodePart D a) (piece : NodePiece D a) → slice_get parts n ≡ Some part → slice_get nodes.pieces.items n ≡ Some piece
        → IsReadPart words part piece (slice_index_or (logs_of nodes.logs.items) n []) (slice_index_or nodes.counts.items n 0)
    pub images : nodes.images.items ≡ map images_of parts

  -- one node more
  pub record HasOneMore (old new : ReadNodes D a) (node : ReadNode D a) : Type 0 where
    pub pieces : new.pieces.items ≡ old.pieces.items ++ node.piece ∷ []
    pub logs : new.logs.items ≡ old.logs.items ++ node.records ∷ []
    pub counts : new.counts.items ≡ old.counts.items ++ node.count ∷ []
    pub images : new.images.items ≡ old.images.items ++ node.images ∷ []
