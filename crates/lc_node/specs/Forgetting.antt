-- Of a node: what a cluster forgets: which records all its nodes have applied, as was seen under the locks of their
-- segments.
use Rattle.std.specs.Prelude.{◌≡◌, ℕ, ◌+◌}
use Rattle.lc_node.specs.Held.{IsHeldOf}
use Rattle.lc_segments.specs.declared.held.HeldSide.{HeldSide}
use Rattle.lc_node.specs.declared.node.Node.{Node}

module _ {D : Type 0} where
  -- the segment at this place of the node was held, and had applied its records up to this number
  abbrev pub HasApplied : Node D → ℕ → ℕ → Type 0
  HasApplied node place number = (held : HeldSide D) × IsHeldOf node held × (held.side.segment ≡ place + 1) × (held.side.backlog.applied ≡ number)
