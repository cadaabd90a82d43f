-- Of nodes that run: what it is that a running store follows the machine and the numbers, step by step.
use Rattle.std.specs.Prelude.{◌≡◌, ◌≤◌, Bool, true, false, List, Option, None}
use Rattle.lc_disk.specs.declared.area.Area.{Ghosts}
use Rattle.lc_record.specs.declared.geometry.Geometry.{Geometry}
use Rattle.lc_token.specs.declared.token.Token.{Token}
use Rattle.lc_model.specs.Machine.{Step}
use Rattle.lc_model.specs.State.{Setting, State}
use Rattle.lc_model.specs.declared.event.Event.{Event}
use Rattle.lc_model.specs.declared.event.Event.TheVariants.{SetRange, Read, Reserve, Leave, Deliver, PageStep, Stop, RecoverStep}
use Rattle.lc_model.specs.declared.reply.Reply.{Reply}
use Rattle.lc_events.specs.Delivers.{WantsPart}
use Rattle.lc_settled.specs.Numbers.{Numbers}
use Rattle.lc_events.specs.Refuses.{Refuses}
use Rattle.lc_events.specs.Running.{FitsAll, FitsRunning, WantsBytes, WantsPlaceAt, WantsRange}
use Rattle.lc_settled.specs.Settled.{Settled, is_writing}
use Rattle.lc_settled.specs.Turns.{Turns}
use Rattle.lc_events.specs.declared.node_state.NodeState.{NodeState}
use Rattle.lc_events.specs.declared.running.Running.{Running}

-- of these all but page steps
abbrev pub is_plain : Event → Bool
is_plain (PageStep node segment page) = false
is_plain (Stop choices) = false
is_plain RecoverStep = false
is_plain event = true

-- it is told whether a page is being written of the segment whose token is to leave
abbrev pub TellsWriting : Setting → Numbers → Event → Bool → Type 0
TellsWriting m x (Leave node segment) writing = 1 ≤ segment → segment ≤ m.geometry.segments → writing ≡ is_writing m x segment
TellsWriting m x event writing = Unit {0}

module _ {D : Type 0} (a : Ghosts D) where
  -- a step of the machine under this reply, which is settled, and the numbers after it
  pub record StepsOn (m : Setting) (event : Event) (s : State) (x : Numbers) (reply : Reply) (geometry : Geometry) (nodes : List (NodeState D a)) (travelling : List (Option Token)) : Type 0 where
    pub after : State
    pub next : Numbers
    pub step : Step m s event reply after
    pub settled : Settled m s x event reply
    pub turns : Turns m s x event reply next
    pub fits : FitsAll a m geometry nodes travelling after next

  -- whatever state and numbers it fits
  abbrev pub FollowsStep : Bool → Running D a → Event → Reply → Running D a → Type 0
  FollowsStep writing old event reply new =
      (m : Setting) (s : State) (x : Numbers) → FitsRunning a m old s x → TellsWriting m x event writing
      → StepsOn m event s x reply new.geometry new.nodes.items new.travelling.items

  -- what an event may want memory for
  abbrev pub Wants : Running D a → Event → Type 0
  Wants w (SetRange node thread segment offset len) = WantsRange a node thread segment offset len w
  Wants w (Read node thread segment offset len) = WantsBytes a node thread segment offset len w
  Wants w (Reserve node thread) = WantsPlaceAt a node thread w
  Wants w (Deliver sender number segment to) = WantsPart a sender number segment to w
  Wants w event = ⊥

  -- it does so only where nothing refuses it at once
  abbrev pub AsksMemory : Running D a → Event → Type 0
  AsksMemory w event = Refuses a w event None × Wants w event
