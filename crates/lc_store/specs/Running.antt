-- What a running node of areas is, and why there is none.
use Rattle.std.specs.Prelude.{◌≡◌, ◌⊎◌, List}
use Rattle.lc_disk.specs.declared.area.Area.{Ghosts}
use Rattle.lc_record.specs.declared.geometry.Geometry.{Geometry}
use Rattle.lc_recover.specs.Recovered.{RecoveredStore}
use Rattle.lc_stage.specs.declared.seats.CommitSeat.{CommitSeat}
use Rattle.lc_events.specs.declared.call_fault.CallFault.TheVariants.{NoMemory}
use Rattle.lc_look.specs.Recovers.{Recovers}
use Rattle.lc_node.specs.FreshNode.{ComesUpAlone, IsFreshNode}
use Rattle.lc_node.specs.declared.fresh_node.FreshNode.{FreshNode}
use Rattle.lc_node.specs.declared.node.Node.{Node}
use Rattle.lc_store.specs.Opening.{RefusesAreas}
use Rattle.lc_store.specs.declared.store_open_fault.StoreOpenFault.{StoreOpenFault}
use Rattle.lc_store.specs.declared.store_open_fault.StoreOpenFault.TheVariants.{NotUp}

module _ {D : Type 0} (a : Ghosts D) where
  -- a recovery of these areas came to its end, and the node and its first seat are what came up of that store, as its one node
  pub record RunsOn (g : Geometry) (areas : List D) (node : Node D) (seat : CommitSeat) : Type 0 where
    pub store : RecoveredStore D
    pub recovers : Recovers a g areas store
    pub fresh : FreshNode D
    pub is_fresh : IsFreshNode store 1 0 fresh
    pub comes_up : ComesUpAlone fresh node seat

  -- so they are, of some areas
  abbrev pub RunsOnSome : Geometry → Node D → CommitSeat → Type 0
  RunsOnSome g node seat = (areas : List D) × RunsOn g areas node seat

  -- why no node runs on these areas: their recovery has stopped, or it came to its end, and there was no memory for the node
  abbrev pub RefusesNode : Geometry → List D → StoreOpenFault → Type 0
  RefusesNode g areas fault = RefusesAreas a g areas fault ⊎ ((fault ≡ NotUp NoMemory) × ((store : RecoveredStore D) × Recovers a g areas store))
