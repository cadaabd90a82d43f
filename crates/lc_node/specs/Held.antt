-- What a caller holds of a node.
use Rattle.std.specs.Prelude.{◌≡◌, ◌⊎◌, ◌+◌, ◌≤◌, ℕ, List, [], ◌∷◌, length, map, None, Some, IsSome, slice_get}
use Rattle.lc_lock.specs.declared.ticket_lock.TicketLock.{TicketLock}
use Rattle.lc_lock.specs.Loans.{IsLoanOf}
use Rattle.lc_segments.specs.SegView.{SegView}
use Rattle.lc_segments.specs.declared.held.HeldSide.{HeldSide}
use Rattle.lc_node.specs.declared.held.Held.{Held}
use Rattle.lc_node.specs.declared.node.Node.{Node}
use Rattle.lc_segments.specs.declared.node_fault.NodeFault.{NodeFault}
use Rattle.lc_segments.specs.declared.node_fault.NodeFault.TheVariants.{NotHere, NoMemory}

module _ {D : Type 0} where
  -- the segment stands at this place of the node, whose lock lent it, and its image is here
  abbrev pub IsHeldOf : Node D → HeldSide D → Type 0
  IsHeldOf node held = (place : ℕ) × (lock : TicketLock (SegView D) ℕ) × (slice_get node.segments.items place ≡ Some lock) × (held.side.segment ≡ place + 1) × IsLoanOf lock held.loan × IsSome held.side.image

  -- the node has the segment
  abbrev pub HasSegment : Node D → ℕ → Type 0
  HasSegment node segment = (1 ≤ segment) × (segment ≤ length node.segments.items)

  -- the first of these segments, in the order in which they stand, that the node does not have
  abbrev pub IsFirstOutside : Node D → List ℕ → ℕ → Type 0
  IsFirstOutside node [] segment = ⊥
  IsFirstOutside node (s ∷ ss) segment = ((HasSegment node s → ⊥) × (s ≡ segment)) ⊎ (HasSegment node s × IsFirstOutside node ss segment)

  abbrev pub segments_of : Held D → List ℕ
  segments_of held = map (λ h. h.side.segment) held.sides.items

  -- the same, whose image is out
  abbrev pub lent_side : HeldSide D → HeldSide D
  lent_side h = record h { side = record h.side { image = None } }

-- why no lock is got
abbrev pub IsUnheld : NodeFault → Type 0
IsUnheld (NotHere segment) = Unit {0}
IsUnheld NoMemory = Unit {0}
IsUnheld _ = ⊥
