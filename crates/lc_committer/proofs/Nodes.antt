-- The node of a number is one.
use Rattle.std.proofs.Common.{◌≡◌, ◌∙◌, ℕ, Some, sym, subst}
use Rattle.std.proofs.lemmas.Option.{same_Some}
use Rattle.lc_cluster.specs.Calls.{HasSegmentAt}
use Rattle.lc_cluster.specs.Cluster.{node_at}
use Rattle.lc_node.specs.Held.{HasSegment}
use Rattle.lc_cluster.specs.declared.cluster.Cluster.{Cluster}
use Rattle.lc_node.specs.declared.node.Node.{Node}

-- where the node of a number has a segment, the node that was asked for has it
pub has_segment : {D : Type 0} (cluster : Cluster D) (number segment : ℕ) (node : Node D) → node_at cluster number ≡ Some node
    → HasSegmentAt cluster number segment → HasSegment node segment
has_segment cluster number segment node at has = subst (λ n. HasSegment n segment) (same_Some _ _ (sym has.1 ∙ at)) has.2
