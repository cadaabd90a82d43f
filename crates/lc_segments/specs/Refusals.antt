-- Of a segment: where what a cluster leaves is refused, and by which fault.
use Rattle.std.specs.Prelude.{◌≡◌, ℕ}
use Rattle.lc_rest.specs.declared.cluster_part.ClusterPart.TheVariants.{Log}
use Rattle.lc_segments.specs.LeftBy.{HasFailed}
use Rattle.lc_segments.specs.declared.node_fault.NodeFault.{NodeFault}
use Rattle.lc_segments.specs.declared.node_fault.NodeFault.TheVariants.{Mismatch, NoMemory}
use Rattle.lc_segments.specs.declared.page_area.PageArea.{PageArea}

-- Segments

module _ {D : Type 0} where
  -- why a segment at this node is refused: its area failed, which is the node's log; or, where it did not, there is no memory
  abbrev pub StopsSegment : ℕ → PageArea D → NodeFault → Type 0
  StopsSegment node pages (Mismatch (Log n)) = (n ≡ node) × HasFailed pages
  StopsSegment node pages NoMemory = HasFailed pages → ⊥
  StopsSegment node pages other = ⊥
