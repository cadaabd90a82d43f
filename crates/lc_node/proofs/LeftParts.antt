-- Of a node: what a cluster leaves, of what stands at its members.
use Rattle.std.proofs.Common.{◌≡◌, All, length}
use Rattle.lc_disk.specs.declared.area.Area.{Ghosts}
use Rattle.lc_rest.specs.Parts.{AreKept, KeepsPages}
use Rattle.lc_rest.specs.declared.parts.Parts.{Parts}
use Rattle.lc_record.proofs.ListLemmas.{All-slice_get as at_each}
use Rattle.lc_node.specs.LeftBy.{IsLeftNode}

-- parts that are each as the types keep them
module _ {D : Type 0} (a : Ghosts D) where
  pub all_kept : (parts : Parts D a) → length parts.nodes.items ≡ parts.geometry.nodes → length parts.segments.items ≡ parts.geometry.segments
      → All (IsLeftNode a parts.geometry) parts.nodes.items → All (KeepsPages a parts.geometry) parts.segments.items → AreKept a parts
  all_kept parts nodes segments each pages = record {
    nodes = nodes;
    segments = segments;
    logs = λ n part got. (at_each (IsLeftNode a parts.geometry) parts.nodes.items n part each got).log;
    images = λ n part got. (let its = at_each (IsLeftNode a parts.geometry) parts.nodes.items n part each got in (its.images, its.applied));
    pages = λ k part got. at_each (KeepsPages a parts.geometry) parts.segments.items k part pages got;
  }
