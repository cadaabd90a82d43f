-- In which round the log of a node is.
use Rattle.std.specs.Prelude.{◌≡◌, ℕ, true, Option, None, Some, slice_get}
use Rattle.lc_disk.specs.declared.area.Area.{Ghosts}
use Rattle.lc_model.specs.Refusals.{is_node}
use Rattle.lc_model.specs.State.{Setting, State, Up as IsUp}
use Rattle.lc_settled.specs.Numbers.{Numbers}
use Rattle.lc_core.specs.World.{FitsWorld}
use Rattle.lc_events.specs.declared.node_state.NodeState.{NodeState}
use Rattle.lc_core.specs.declared.world_phase.WorldPhase.{WorldPhase}
use Rattle.lc_core.specs.declared.world_phase.WorldPhase.TheVariants.{Down, Up, Taken}
use Rattle.lc_core.specs.declared.world.World.{World}

module _ {D : Type 0} (a : Ghosts D) where
  -- the one that stands in its journal
  abbrev pub round_at : Option (NodeState D a) → ℕ
  round_at None = 0
  round_at (Some node) = node.journal.round

  abbrev pub round_in : WorldPhase D a → ℕ → ℕ
  round_in (Up up) node = round_at (slice_get up.running.nodes.items node)
  round_in (Down recovery) node = 0
  round_in Taken node = 0

  -- while the store is up, of each of its nodes, whatever it fits
  abbrev pub ShowsRound : World D a → ℕ → ℕ → Type 0
  ShowsRound w node round =
      (m : Setting) (s : State) (x : Numbers) → FitsWorld a m w s x → s.phase ≡ IsUp → is_node m.geometry node ≡ true → round ≡ x.round node
