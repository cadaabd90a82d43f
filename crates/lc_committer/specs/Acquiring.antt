-- Where a token was, and what peers that were asked for it did.
use Rattle.std.specs.Prelude.{◌≡◌, ◌≢◌, ◌⊎◌, ℕ, Bool, Some, true, false, Result, Err}
use Rattle.lc_disk.specs.declared.area.Area.{Ghosts}
use Rattle.lc_cluster.specs.Calls.{HandsOverAt, HasSegmentAt}
use Rattle.lc_cluster.specs.Cluster.{HasNode, node_at}
use Rattle.lc_node.specs.Flushes.{HasNotFlushed}
use Rattle.lc_node.specs.Telling.{HasTokenOf}
use Rattle.lc_cluster.specs.declared.cluster.Cluster.{Cluster}
use Rattle.lc_node.specs.declared.node.Node.{Node}
use Rattle.lc_segments.specs.declared.node_fault.NodeFault.{NodeFault}

module _ {D : Type 0} where
  -- the token of the segment was looked for at the node of this number, and stood there exactly where the answer is yes
  abbrev pub WasLookedFor : Cluster D → ℕ → ℕ → Bool → Type 0
  WasLookedFor cluster number segment answer = (node : Node D) × (node_at cluster number ≡ Some node) × HasTokenOf node segment answer

  -- the token of the segment stood at the node of this number at one moment
  abbrev pub HadToken : Cluster D → ℕ → ℕ → Type 0
  HadToken cluster number segment = WasLookedFor cluster number segment true

  -- if the node of this number has the segment, its token was looked for there, and was elsewhere
  abbrev pub LackedToken : Cluster D → ℕ → ℕ → Type 0
  LackedToken cluster number segment = HasSegmentAt cluster number segment → WasLookedFor cluster number segment false

module _ {D : Type 0} (a : Ghosts D) where
  -- a peer lacked the token, or it was to hand it over to the node of this number, and this is its answer
  abbrev pub WasAsked : Cluster D → ℕ → ℕ → ℕ → Type 0
  WasAsked cluster number segment peer =
      LackedToken cluster peer segment ⊎ ((answer : Result (Unit {0}) NodeFault) × HandsOverAt a cluster peer number segment answer)

  -- so it was with each peer of the node of this number
  abbrev pub WereAsked : Cluster D → ℕ → ℕ → Type 0
  WereAsked cluster number segment = (peer : ℕ) → HasNode cluster peer → peer ≢ number → WasAsked cluster number segment peer

  -- a peer could not flush, or not hand the token over, for this fault
  pub record FailsAtPeer (cluster : Cluster D) (number segment : ℕ) (fault : NodeFault) : Type 0 where
    pub peer : ℕ
    pub other : peer ≢ number
    pub cause : ((node : Node D) × (node_at cluster peer ≡ Some node) × HasNotFlushed a node fault)
        ⊎ HandsOverAt a cluster peer number segment (Err fault)
