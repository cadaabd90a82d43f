-- Of nodes that run: what stands ready before the pages of a store are known, and how its nodes are filled with them.
use Rattle.std.specs.Prelude.{◌≡◌, ◌≤◌, ℕ}
use Rattle.lc_disk.specs.declared.area.Area.{Ghosts}
use Rattle.lc_record.specs.declared.geometry.Geometry.{Geometry}
use Rattle.lc_recover.specs.Recovered.{RecoveredStore}
use Rattle.lc_token.specs.KnownClean.{KnowsNothing, known as known_of}
use Rattle.lc_events.specs.Fresh.{known_first}
use Rattle.lc_events.specs.declared.node_state.NodeState.{NodeState}
use Rattle.lc_desk.specs.Blank.{AreFreshSlots, IsBlankDesk, StandAt}
use Rattle.lc_journal.specs.Blank.{IsBlankJournal}

module _ {D : Type 0} (a : Ghosts D) where
  pub record IsBlankNode (g : Geometry) (n : ℕ) (node : NodeState D a) : Type 0 where
    pub desk : IsBlankDesk g node.desk
    pub stand : StandAt g n node.desk.here.slots.items
    pub journal : (IsBlankJournal a) g node.journal
    pub known : KnowsNothing node.known

  -- its slots have what the recovery has made of them
  pub record IsFilledNode (r : RecoveredStore D) (n : ℕ) (node : NodeState D a) : Type 0 where
    pub desk : IsBlankDesk r.geometry node.desk
    pub slots : AreFreshSlots r n node.desk.here.slots.items
    pub journal : (IsBlankJournal a) r.geometry node.journal
    pub known : (segment : ℕ) → 1 ≤ segment → segment ≤ r.geometry.segments → known_of node.known segment ≡ known_first r n segment
