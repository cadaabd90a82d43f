-- Where no store is made of what a cluster left, and by which fault.
use Rattle.std.specs.Prelude.{◌≡◌, ◌⊎◌}
use Rattle.lc_disk.specs.declared.area.Area.{Ghosts}
use Rattle.lc_record.specs.declared.geometry.Geometry.{Geometry}
use Rattle.lc_rest.specs.AtRest.{FailsFirst, HasPart}
use Rattle.lc_rest.specs.Parts.{AreHonest, AreKept, FailsOnce}
use Rattle.lc_rest.specs.declared.parts.Parts.{Parts}
use Rattle.lc_node.specs.Refusals.{StopsParts}
use Rattle.lc_segments.specs.declared.node_fault.NodeFault.{NodeFault}
use Rattle.lc_segments.specs.declared.node_fault.NodeFault.TheVariants.{DeviceFault, Mismatch, NoMemory}

module _ {D : Type 0} (a : Ghosts D) where
  -- why no store is made of these parts: one that the cluster has does not agree, while the areas are honest the first whose test
  -- fails; a call on the area of a segment failed; or there is no memory
  abbrev pub StopsAdoption : Parts D a → NodeFault → Type 0
  StopsAdoption parts (Mismatch part) = HasPart parts.geometry part × (AreHonest a parts → FailsFirst a parts part)
  StopsAdoption parts DeviceFault = FailsOnce a parts
  StopsAdoption parts NoMemory = Unit {0}
  StopsAdoption parts other = ⊥

  -- there are parts of a cluster of this geometry, each as its types keep it, of which no store is made for this fault
  pub record IsNotAdopted (g : Geometry) (fault : NodeFault) : Type 0 where
    pub parts : Parts D a
    pub geometry : parts.geometry ≡ g
    pub kept : AreKept a parts
    pub stops : StopsAdoption parts fault

  -- the threads left no parts, or no store is made of them
  abbrev pub StopsCluster : Geometry → NodeFault → Type 0
  StopsCluster g fault = StopsParts g fault ⊎ IsNotAdopted g fault
