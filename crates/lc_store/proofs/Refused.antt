-- What an adoption says, as a fault of a running node.
use Rattle.std.proofs.Common.{◌≡◌, refl}
use Rattle.std.specs.Prelude.{Err, Result}
use Rattle.lc_disk.specs.declared.area.Area.{Ghosts}
use Rattle.lc_rest.specs.AtRest.{FailsFirst, HasPart}
use Rattle.lc_rest.specs.Parts.{AreHonest, FailsOnce}
use Rattle.lc_rest.specs.declared.adopt_fault.AdoptFault.{AdoptFault}
use Rattle.lc_rest.specs.declared.adopt_fault.AdoptFault.TheVariants.{Mismatch as Disagrees, NoMemory as LacksMemory, DeviceFault as Fails}
use Rattle.lc_rest.specs.declared.cluster_part.ClusterPart.{ClusterPart}
use Rattle.lc_rest.specs.declared.parts.Parts.{Parts}
use Rattle.lc_segments.specs.Fault.{of_adoption}
use Rattle.lc_store.specs.Refusals.{StopsAdoption}

-- a refusal of an adoption names a part of the cluster, which fails, or a call that failed, or there is no memory
pub of_adopted : {A D : Type 0} (a : Ghosts D) (parts : Parts D a) (fault : AdoptFault) → ((part : ClusterPart) → ◌≡◌ {A = Result A AdoptFault} (Err fault) (Err (Disagrees part)) → HasPart parts.geometry part)
    → ((part : ClusterPart) → ◌≡◌ {A = Result A AdoptFault} (Err fault) (Err (Disagrees part)) → AreHonest a parts → FailsFirst a parts part) → (◌≡◌ {A = Result A AdoptFault} (Err fault) (Err Fails) → FailsOnce a parts)
    → StopsAdoption a parts (of_adoption fault)
of_adopted a parts (Disagrees part) within mismatch device = (within part refl, mismatch part refl)
of_adopted a parts LacksMemory within mismatch device = tt
of_adopted a parts Fails within mismatch device = device refl
