-- All nodes of a store that is up, against the machine and the numbers beside it.
use Rattle.std.specs.Prelude.{◌≡◌, Bool, ℕ, ◌+◌, List, length, Option, None, Some, slice_get}
use Rattle.lc_disk.specs.declared.area.Area.{Ghosts}
use Rattle.lc_record.specs.declared.geometry.Geometry.{Geometry}
use Rattle.lc_token.specs.declared.token.Token.{Token}
use Rattle.lc_model.specs.Machine.{Row}
use Rattle.lc_model.specs.Refusals.{common_refusal}
use Rattle.lc_model.specs.Sound.{Sound}
use Rattle.lc_model.specs.State.{Travelling, Up, Setting, State}
use Rattle.lc_model.specs.Stored.{Fits as FitsDisks}
use Rattle.lc_model.specs.declared.event.Event.{Event}
use Rattle.lc_model.specs.declared.event.Event.TheVariants.{Leave}
use Rattle.lc_model.specs.declared.reply.Reply.{Reply}
use Rattle.lc_journal.specs.Coherent.{AreCoherent}
use Rattle.lc_desk.specs.Growing.{MayReadSome, MaySetMore}
use Rattle.lc_events.specs.NodeState.{FitsNode}
use Rattle.lc_settled.specs.Numbers.{Numbers}
use Rattle.lc_desk.specs.Prepares.{GetsPlace}
use Rattle.lc_settled.specs.Settled.{Settled, is_writing}
use Rattle.lc_desk.specs.Slots.{FitsToken}
use Rattle.lc_settled.specs.Turns.{Turns}
use Rattle.lc_events.specs.declared.node_state.NodeState.{NodeState}
use Rattle.lc_events.specs.declared.running.Running.{Running}

-- the tokens that are on their way, each at the place of its segment
pub record FitsTravelling (m : Setting) (tokens : List (Option Token)) (s : State) (x : Numbers) : Type 0 where
  pub count : length tokens ≡ m.geometry.segments
  pub some : (k : ℕ) (token : Token) → slice_get tokens k ≡ Some (Some token) → (s.place (k + 1) ≡ Travelling) × FitsToken m (k + 1) token s x
  pub none : (k : ℕ) → slice_get tokens k ≡ Some None → s.place (k + 1) ≡ Travelling → ⊥

module _ {D : Type 0} (a : Ghosts D) where
  abbrev pub FitsNodes : Setting → List (NodeState D a) → State → Numbers → Type 0
  FitsNodes m nodes s x = (n : ℕ) (node : NodeState D a) → slice_get nodes n ≡ Some node → FitsNode a m n node s x

  pub record FitsAll (m : Setting) (geometry : Geometry) (nodes : List (NodeState D a)) (travelling : List (Option Token)) (s : State) (x : Numbers) : Type 0 where
    pub geometry_is : m.geometry ≡ geometry
    pub up : s.phase ≡ Up
    pub sound : Sound m.geometry s
    -- whatever a stop leaves of the records and pages of this state merges to what it cuts
    pub stored : FitsDisks m s x.disks
    -- what tokens call clean is on the pages, and what is under way is so on the disks
    pub coherent : AreCoherent m s x
    pub each : FitsNodes m nodes s x
    pub on_the_way : FitsTravelling m travelling s x

  abbrev pub FitsRunning : Setting → Running D a → State → Numbers → Type 0
  FitsRunning m w s x = FitsAll m w.geometry w.nodes.items w.travelling.items s x

  -- what a reply leads to: states and numbers that the event's row and the numbers allow, and that fit
  pub record Onward (m : Setting) (event : Event) (s : State) (x : Numbers) (reply : Reply) (geometry : Geometry) (nodes : List (NodeState D a)) (travelling : List (Option Token)) : Type 0 where
    pub after : State
    pub next : Numbers
    pub row : Row m s event reply after
    pub settled : Settled m s x event reply
    pub turns : Turns m s x event reply next
    pub fits : FitsAll m geometry nodes travelling after next

  -- whatever it fits where nothing refuses the event at once
  abbrev pub FollowsRow : Running D a → Event → Reply → Running D a → Type 0
  FollowsRow old event reply new =
      (m : Setting) (s : State) (x : Numbers) → FitsRunning m old s x → common_refusal m.geometry s event ≡ None
      → Onward m event s x reply new.geometry new.nodes.items new.travelling.items

  -- where it is told whether a page of the segment is being written
  abbrev pub FollowsLeaving : ℕ → ℕ → Bool → Running D a → Reply → Running D a → Type 0
  FollowsLeaving node segment writing old reply new =
      (m : Setting) (s : State) (x : Numbers) → FitsRunning m old s x → common_refusal m.geometry s (Leave node segment) ≡ None → writing ≡ is_writing m x segment
      → Onward m (Leave node segment) s x reply new.geometry new.nodes.items new.travelling.items

  -- the thread's open transaction at that node may set these positions, of which some is not set yet
  abbrev pub WantsRange : ℕ → ℕ → ℕ → ℕ → ℕ → Running D a → Type 0
  WantsRange n thread segment offset len old =
      (node : NodeState D a) × (slice_get old.nodes.items n ≡ Some node) × MaySetMore thread segment offset len node.desk

  -- it may read these bytes, of which there is one at least
  abbrev pub WantsBytes : ℕ → ℕ → ℕ → ℕ → ℕ → Running D a → Type 0
  WantsBytes n thread segment offset len old =
      (node : NodeState D a) × (slice_get old.nodes.items n ≡ Some node) × MayReadSome thread segment offset len node.desk

  -- the thread's transaction gets its place at that node, in each state and with the numbers that this fits
  abbrev pub WantsPlaceAt : ℕ → ℕ → Running D a → Type 0
  WantsPlaceAt n thread old = (m : Setting) (s : State) (x : Numbers) → FitsRunning m old s x → (place : ℕ) × GetsPlace m n thread s x place

  -- whatever it fitted, it still fits
  abbrev pub StillFitsAll : Running D a → Running D a → Type 0
  StillFitsAll old new = (m : Setting) (s : State) (x : Numbers) → FitsRunning m old s x → FitsRunning m new s x
