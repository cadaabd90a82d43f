-- Of a node: what a cluster leaves once its threads have ended.
use Rattle.std.specs.Prelude.{◌≡◌, ℕ, ◌++◌, List, Some, All, length, map}
use Rattle.std.specs.List.{flat_map}
use Rattle.lc_disk.specs.declared.area.Area.{Ghosts}
use Rattle.lc_lock.specs.Loans.{key_of}
use Rattle.lc_lock.specs.declared.ticket_lock.TicketLock.{TicketLock}
use Rattle.lc_record.specs.declared.geometry.Geometry.{Geometry}
use Rattle.lc_tx.specs.declared.image.Image.{Image as Picture}
use Rattle.lc_rest.specs.Parts.{KeepsLog}
use Rattle.lc_rest.specs.declared.node_part.NodePart.{NodePart}
use Rattle.lc_rest.specs.declared.segment_part.SegmentPart.{SegmentPart}
use Rattle.lc_segments.specs.SegView.{SegView}
use Rattle.lc_segments.specs.LeftBy.{HasFailed, tokens_at}

-- Segments

module _ {D : Type 0} where
  -- the segments that stood behind a node's locks, each of which is the one that its lock knows. These are their
  -- images, and the numbers up to which their records are applied; no call of an area failed; and their tokens go after
  -- the old ones
  pub record StoodBehind (node : ℕ) (locks : List (TicketLock (SegView D) ℕ)) (images : List Picture) (applied : List ℕ) (old new : List (SegmentPart D)) : Type 0 where
    pub sides : List (SegView D)
    pub segments : map (λ (side : SegView D). side.segment) sides ≡ map (λ (lock : TicketLock (SegView D) ℕ). key_of lock) locks
    pub images_are : map (λ (side : SegView D). side.image) sides ≡ map (λ (image : Picture). Some image) images
    pub applied_are : map (λ (side : SegView D). side.backlog.applied) sides ≡ applied
    pub serve : All (λ (side : SegView D). HasFailed side.pages → ⊥) sides
    pub tokens : new ≡ old ++ flat_map (λ (side : SegView D). tokens_at node side) sides

module _ {D : Type 0} (a : Ghosts D) where
  -- with an image of each segment
  pub record IsLeftNode (g : Geometry) (part : NodePart D a) : Type 0 where
    pub log : KeepsLog a g part
    pub images : length part.images.items ≡ g.segments
    pub applied : length part.applied.items ≡ g.segments
