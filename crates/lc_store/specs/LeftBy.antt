-- The store that is made of what a cluster left.
use Rattle.std.specs.Prelude.{◌≡◌, ℕ, List, length, Some, slice_get}
use Rattle.std.specs.Global.{Vec}
use Rattle.lc_disk.specs.declared.area.Area.{Ghosts}
use Rattle.lc_record.specs.declared.geometry.Geometry.{Geometry}
use Rattle.lc_stage.specs.declared.seats.CommitSeat.{CommitSeat}
use Rattle.lc_rest.specs.Parts.{AreKept}
use Rattle.lc_rest.specs.declared.node_part.NodePart.{NodePart}
use Rattle.lc_rest.specs.declared.parts.Parts.{Parts}
use Rattle.lc_core.specs.Adoption.{IsAdoption}
use Rattle.lc_core.specs.declared.world.World.{World}
use Rattle.lc_log_side.specs.LeftBy.{AreReceived}

module _ {D : Type 0} (a : Ghosts D) where
  -- the store is what the parts of a cluster of this geometry make, each of which is as its types keep it; there are as many lists of
  -- seats as nodes; and the logs have the records of which these seats have receipts, those of list n in the log of node n
  pub record IsLeftBy (g : Geometry) (seats : List (Vec CommitSeat)) (world : World D a) : Type 0 where
    pub parts : Parts D a
    pub geometry : parts.geometry ≡ g
    pub kept : AreKept a parts
    pub each : length seats ≡ g.nodes
    pub adoption : IsAdoption a parts world
    pub received : (node : ℕ) (part : NodePart D a) (mine : Vec CommitSeat) → slice_get parts.nodes.items node ≡ Some part → slice_get seats node ≡ Some mine
        → AreReceived part.round part.stable.items part.known mine.items
