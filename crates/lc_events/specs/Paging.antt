-- Of nodes that run: what it is that the step of a page write follows the machine and the numbers, at a node and in a
-- segment's area.
use Rattle.std.specs.Prelude.{◌≡◌, ℕ, true, None, Some, slice_get}
use Rattle.lc_disk.specs.declared.area.Area.{Ghosts}
use Rattle.lc_model.specs.Refusals.{common_refusal}
use Rattle.lc_model.specs.Sound.{Sound}
use Rattle.lc_model.specs.State.{At, Setting, State}
use Rattle.lc_model.specs.declared.event.Event.TheVariants.{PageStep}
use Rattle.lc_model.specs.declared.reply.Reply.{Reply}
use Rattle.lc_events.specs.NodeState.{FitsNode, GoesOn}
use Rattle.lc_settled.specs.Numbers.{Numbers}
use Rattle.lc_desk.specs.Pages.{FitsArea}
use Rattle.lc_events.specs.Running.{FitsRunning, Onward}
use Rattle.lc_events.specs.declared.node_state.NodeState.{NodeState}
use Rattle.lc_desk.specs.declared.page_state.PageState.TheVariants.{Failed}
use Rattle.lc_desk.specs.declared.pages.Pages.{Pages}
use Rattle.lc_events.specs.declared.running.Running.{Running}

module _ {D : Type 0} (a : Ghosts D) where
  -- where a write of a page of the segment failed, the segment's token is at a node that is halted
  abbrev pub HaltsFailed : State → ℕ → Pages D a → Type 0
  HaltsFailed s segment pages = (page : ℕ) → slice_get pages.writes.items page ≡ Some Failed → (node : ℕ) × (s.place segment ≡ At node) × (s.halted node ≡ true)

  -- whatever sound state and numbers the node and the area fit where nothing refuses the event at once
  abbrev pub FollowsPage : ℕ → ℕ → NodeState D a → Pages D a → Reply → NodeState D a → Pages D a → Type 0
  FollowsPage segment page old olds reply new news =
      (m : Setting) (n : ℕ) (s : State) (x : Numbers) → Sound m.geometry s → common_refusal m.geometry s (PageStep n segment page) ≡ None → FitsNode a m n old s x
      → FitsArea a m.geometry segment olds x → HaltsFailed s segment olds
      → (goes : GoesOn a m n (PageStep n segment page) s x reply new) × FitsArea a m.geometry segment news goes.next × HaltsFailed goes.after segment news

  -- so it is for all nodes
  abbrev pub FollowsPaging : ℕ → ℕ → ℕ → Running D a → Pages D a → Reply → Running D a → Pages D a → Type 0
  FollowsPaging n segment page old olds reply new news =
      (m : Setting) (s : State) (x : Numbers) → FitsRunning a m old s x → common_refusal m.geometry s (PageStep n segment page) ≡ None
      → FitsArea a m.geometry segment olds x → HaltsFailed s segment olds
      → (on : Onward a m (PageStep n segment page) s x reply new.geometry new.nodes.items new.travelling.items)
      × FitsArea a m.geometry segment news on.next × HaltsFailed on.after segment news
