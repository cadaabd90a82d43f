-- Of a cluster: where what a cluster leaves is refused.
use Rattle.std.proofs.Common.{◌≡◌, ◌⊎◌, ◌<◌, ℕ, List, length, Some, inl, inr, sym, ap, subst, ◌∙◌, arith}
use Rattle.std.specs.Prelude.{Any, map, option_map, slice_get}
use Rattle.std.proofs.lemmas.List.{length-map}
use Rattle.std.proofs.lemmas.Option.{slice_get-get_or, slice_get-map, same_Some as some_same}
use Rattle.lc_record.specs.declared.geometry.Geometry.{Geometry}
use Rattle.lc_record.proofs.ListLemmas.{slice_get_some as stands}
use Rattle.lc_rest.specs.declared.cluster_part.ClusterPart.TheVariants.{Seat, Log}
use Rattle.lc_cluster.specs.LeftBy.{node_in}
use Rattle.lc_node.specs.Refusals.{StopsNode, StopsParts}
use Rattle.lc_cluster.specs.declared.cluster.Cluster.{Cluster}
use Rattle.lc_node.specs.declared.node.Node.{Node}
use Rattle.lc_segments.specs.declared.node_fault.NodeFault.{NodeFault}
use Rattle.lc_segments.specs.declared.node_fault.NodeFault.TheVariants.{Mismatch, NoMemory}

-- one of a node is one of the cluster's parts
pub of_parts : (g : Geometry) (node : ℕ) (fault : NodeFault) → node < g.nodes → StopsNode node fault → StopsParts g fault
of_parts g node (Mismatch (Seat n)) within stops = subst (λ (k : ℕ). k < g.nodes) (sym stops) within
of_parts g node (Mismatch (Log n)) within stops = subst (λ (k : ℕ). k < g.nodes) (sym stops) within
of_parts g node NoMemory within stops = tt
of_parts g node other within stops = absurd stops

-- the nodes are those of the cluster, which has as many as its geometry says, each with its own number
module _ {D : Type 0} (cluster : Cluster D) where
  pub of_nodes : (nodes : List (Node D)) (fault : NodeFault) → nodes ≡ map node_in cluster.members.items → (fault ≡ NoMemory) ⊎ Any (λ (node : Node D). StopsNode node.number fault) nodes → StopsParts cluster.geometry fault
  of_nodes nodes fault are (inl memory) = subst (StopsParts cluster.geometry) (sym memory) tt
  of_nodes nodes fault are (inr some) =
      let place = some.0 in
      let node = some.1 in
      let got : slice_get nodes place ≡ Some node = slice_get-get_or nodes place node some.2 ∙ ap Some some.3 in
      let long : length nodes ≡ length cluster.members.items = ap (λ (l : List (Node D)). length l) are ∙ length-map cluster.members.items node_in in
      let within : place < length cluster.members.items = omega (arith, some.2, long) in
      let its = stands cluster.members.items place within in
      let same : node_in its.0 ≡ node = some_same (node_in its.0) node (sym (ap (λ (l : List (Node D)). slice_get l place) are ∙ (slice_get-map node_in cluster.members.items place ∙ ap (option_map node_in) its.1)) ∙ got) in
      let number : node.number ≡ place = sym (ap (λ (n : Node D). n.number) same) ∙ cluster.numbered place its.0 its.1 in
      of_parts cluster.geometry node.number fault (let whole = cluster.members.ok.0 in omega (arith, within, number, cluster.all_nodes, whole)) some.4
