-- Of the store: what a node's image of a segment shows.
use Rattle.std.specs.Prelude.{◌≡◌, ℕ, ◌-◌, ◌≤◌, List, slice_get, Some, if◌then◌else◌}
use Rattle.lc_disk.specs.declared.area.Area.{Ghosts}
use Rattle.lc_record.specs.Content.{segment_of}
use Rattle.lc_model.specs.Refusals.{is_at}
use Rattle.lc_model.specs.State.{Setting, State}
use Rattle.lc_settled.specs.Numbers.{Numbers}
use Rattle.lc_desk.specs.Slots.{segment_to}
use Rattle.lc_core.specs.World.{FitsWorld}
use Rattle.lc_events.specs.declared.node_state.NodeState.{NodeState}
use Rattle.lc_core.specs.declared.world_phase.WorldPhase.{WorldPhase}
use Rattle.lc_core.specs.declared.world_phase.WorldPhase.TheVariants.{Up}
use Rattle.lc_desk.specs.declared.segment_copy.SegmentCopy.{SegmentCopy}
use Rattle.lc_core.specs.declared.world.World.{World}
use Rattle.lc_events.specs.Showing.{content_with, open_writer}
use Rattle.lc_desk.specs.Showing.{page_of}

-- where the token is, the segment with the writes of the transaction that is open on it; elsewhere as the node has applied it
abbrev pub image_of : Setting → State → Numbers → ℕ → ℕ → List ℕ
image_of m s x node segment =
    if is_at node (s.place segment) then segment_of segment (content_with m s (open_writer segment s))
    else segment_to m s x.disks segment (x.applied node segment)

module _ {D : Type 0} (a : Ghosts D) where
  -- these are the bytes, whatever it fits
  abbrev pub ShowsPage : World D a → ℕ → ℕ → ℕ → List ℕ → Type 0
  ShowsPage w node segment page bytes =
      (m : Setting) (s : State) (x : Numbers) → FitsWorld a m w s x → bytes ≡ page_of (image_of m s x node segment) page

  -- these are the bytes of the page of the image that the node has of the segment
  abbrev pub LendsPage : WorldPhase D a → ℕ → ℕ → ℕ → List ℕ → Type 0
  LendsPage (Up up) node segment page bytes =
      (its : NodeState D a) × (slot : SegmentCopy) × (1 ≤ segment) × (slice_get up.running.nodes.items node ≡ Some its)
      × (slice_get its.desk.here.slots.items (segment - 1) ≡ Some slot) × (bytes ≡ page_of slot.image.bytes.items page)
  LendsPage phase node segment page bytes = ⊥
