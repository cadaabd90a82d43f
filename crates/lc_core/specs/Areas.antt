-- The areas of a store that is up, and what a stop makes of areas.
use Rattle.std.specs.Prelude.{◌≡◌, ℕ, true, List, length, drop, Some, slice_get}
use Rattle.lc_disk.specs.Area.{IsClean, IsImage}
use Rattle.lc_disk.specs.declared.area.Area.{Ghosts}
use Rattle.lc_recover.specs.Reads.{area_count}
use Rattle.lc_journal.specs.Log.{area_of}
use Rattle.lc_core.specs.Pages.{areas_of}
use Rattle.lc_events.specs.declared.node_state.NodeState.{NodeState}
use Rattle.lc_core.specs.declared.up.Up.{Up}

module _ {D : Type 0} (a : Ghosts D) where
  -- the areas of a store that is up: those of its nodes' logs, and then those of its segments
  pub record AreOf (up : Up D a) (areas : List D) : Type 0 where
    pub count : length areas ≡ area_count up.running.geometry
    pub logs : (n : ℕ) (node : NodeState D a) → slice_get up.running.nodes.items n ≡ Some node → area_of a node.journal.log ≡ slice_get areas n
    pub segments : areas_of a up.segments.items ≡ drop up.running.geometry.nodes areas

  -- what a stop makes of an area: while it is honest it reads as one image of what it was, and nothing of it is dirty
  pub record IsStopped (old new : D) : Type 0 where
    pub honest : a.honest new ≡ a.honest old
    pub same_length : length (a.now new) ≡ length (a.now old)
    pub calls : a.calls new ≡ a.calls old
    pub failures : a.failures new ≡ a.failures old
    pub image : a.honest old ≡ true → IsImage (a.now old) (a.dirty old) (a.now new)
    pub clean : a.honest old ≡ true → IsClean (a.dirty new)

  -- the areas after a stop
  pub record AreStopped (olds news : List D) : Type 0 where
    pub count : length news ≡ length olds
    pub each : (k : ℕ) (old new : D) → slice_get olds k ≡ Some old → slice_get news k ≡ Some new → IsStopped old new
