-- Of a node: where what a cluster leaves is refused.
use Rattle.std.proofs.Common.{◌≡◌, ◌⊎◌, ℕ, inl, inr, refl, ap}
use Rattle.lc_rest.specs.declared.cluster_part.ClusterPart.TheVariants.{Log}
use Rattle.lc_segments.specs.Refusals.{StopsSegment}
use Rattle.lc_segments.specs.declared.node_fault.NodeFault.{NodeFault}
use Rattle.lc_segments.specs.declared.node_fault.NodeFault.TheVariants.{Mismatch, NoMemory}
use Rattle.lc_segments.specs.declared.page_area.PageArea.{PageArea}

-- a refusal of a segment names the node's log, or there is no memory
pub of_segment : {D : Type 0} (node : ℕ) (pages : PageArea D) (fault : NodeFault) → StopsSegment node pages fault → (fault ≡ Mismatch (Log node)) ⊎ (fault ≡ NoMemory)
of_segment node pages (Mismatch (Log n)) stops = inl (ap (λ (k : ℕ). Mismatch (Log k)) stops.0)
of_segment node pages NoMemory stops = inr refl
of_segment node pages other stops = absurd stops
