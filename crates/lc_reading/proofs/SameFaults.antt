-- Of a cluster that is read: why a cluster at rest is not adopted, handed on.
use Rattle.std.proofs.Common.{◌≡◌}
use Rattle.std.specs.Prelude.{Err, Result}
use Rattle.lc_rest.specs.declared.adopt_fault.AdoptFault.{AdoptFault}
use Rattle.lc_rest.specs.declared.adopt_fault.AdoptFault.TheVariants.{Mismatch}
use Rattle.lc_rest.specs.declared.cluster_part.ClusterPart.{ClusterPart}

pub same_part : {A : Type 0} (one other : ClusterPart) → ◌≡◌ {A = Result A AdoptFault} (Err (Mismatch one)) (Err (Mismatch other)) → one ≡ other
same_part one other is = cc
