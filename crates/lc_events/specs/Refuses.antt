-- What a store that is up refuses before any row is asked.
use Rattle.std.specs.Prelude.{◌≡◌, List, Option, Some, None, true, false, slice_get}
use Rattle.std.specs.Option.{ForSome}
use Rattle.lc_disk.specs.declared.area.Area.{Ghosts}
use Rattle.lc_model.specs.Refusals.{Named, common_refusal, is_known, named}
use Rattle.lc_model.specs.State.{Setting, State}
use Rattle.lc_model.specs.declared.event.Event.{Event}
use Rattle.lc_model.specs.declared.refusal.Refusal.{Refusal}
use Rattle.lc_model.specs.declared.reply.Reply.TheVariants.{Refused}
use Rattle.lc_journal.specs.Log.{is_failed}
use Rattle.lc_settled.specs.Numbers.{Numbers}
use Rattle.lc_events.specs.Geometries.{RefusesUnknown}
use Rattle.lc_events.specs.MayReply.{is_common}
use Rattle.lc_events.specs.Running.{FitsRunning}
use Rattle.lc_events.specs.declared.node_state.NodeState.{NodeState}
use Rattle.lc_events.specs.declared.running.Running.{Running}

module _ {D : Type 0} (a : Ghosts D) where
  -- what the machine refuses at once, in whatever state it fits
  abbrev pub Refuses : Running D a → Event → Option Refusal → Type 0
  Refuses w event refusal = (m : Setting) (s : State) (x : Numbers) → FitsRunning a m w s x → refusal ≡ common_refusal m.geometry s event

  -- the log of the node that acts has not failed
  abbrev pub ActsRunning : Option Named → List (NodeState D a) → Type 0
  ActsRunning None nodes = Unit {0}
  ActsRunning (Some named) nodes = (node : NodeState D a) → slice_get nodes named.node ≡ Some node → is_failed a node.journal.log ≡ false

  -- why an event is refused before its row is asked, if it is: what it names is unknown, or its node is halted
  pub record RefusesFirst (w : Running D a) (event : Event) (refusal : Option Refusal) : Type 0 where
    pub refused : Refuses w event refusal
    pub names : ForSome refusal (λ r. is_common r ≡ true)
    pub unknown : ForSome refusal (λ r. RefusesUnknown w.geometry event (Refused r))
    pub known : refusal ≡ None → is_known w.geometry event ≡ true
    pub running : refusal ≡ None → ActsRunning (named event) w.nodes.items
