-- How far a session is, as contracts see it.
use Rattle.std.specs.Prelude.{◌≡◌, ◌≢◌, ℕ, ◌++◌, Bool, true, false, List, [], ◌∷◌, length, map, Option, Some, None, Result, Ok, Err, slice_get}
use Rattle.std.specs.declared.alloc.AllocError.{AllocError}
use Rattle.lc_record.specs.declared.geometry.Geometry.{Geometry}
use Rattle.lc_model.specs.Merge.{IsLeast}
use Rattle.lc_model.specs.declared.event.Event.{Event}
use Rattle.lc_model.specs.declared.event.Event.TheVariants.{Stop}
use Rattle.lc_model.specs.declared.refusal.Refusal.{Refusal}
use Rattle.lc_model.specs.declared.refusal.Refusal.TheVariants.{Down as IsDown, DeviceFault, OutOfTurn, BadGeometry}
use Rattle.lc_model.specs.declared.reply.Reply.{Reply}
use Rattle.lc_model.specs.declared.reply.Reply.TheVariants.{Refused}
use Rattle.lc_recover.specs.Reads.{area_len}
use Rattle.lc_recover.specs.Recovery.{begun}
use Rattle.lc_core.specs.Answered.{ComesTo}
use Rattle.lc_core.specs.Stops.{HasAreas}
use Rattle.lc_core.specs.declared.world_phase.WorldPhase.TheVariants.{Down}
use Rattle.lc_core.specs.declared.world.World.{World}
use Rattle.lc_c.specs.Mirrors.{IsOfFile, mirror_now}
use Rattle.lc_c.specs.declared.mirror_area.MirrorArea.{MirrorArea}
use Rattle.lc_c.specs.contracts.mirror_area.MirrorAreaArea.TheImpl.{ghosts}
use Rattle.lc_c.specs.declared.session_state.SessionState.{SessionState}
use Rattle.lc_c.specs.declared.session_state.SessionState.TheVariants.{Gathering, Open, Over}

-- the store of a session
abbrev pub SessionStore : Type 0
SessionStore = World MirrorArea ghosts

-- why nothing is asked of a store that is not open
abbrev pub refusal_of : SessionState → Refusal
refusal_of Over = DeviceFault
refusal_of stage = IsDown

-- The areas are gathered

abbrev pub is_gathering : SessionState → Bool
is_gathering (Gathering geometry areas) = true
is_gathering stage = false

-- those that were added
abbrev pub gathered : SessionState → List MirrorArea
gathered (Gathering geometry areas) = areas.items
gathered stage = []

-- for which geometry
abbrev pub geometry_of : SessionState → Option Geometry
geometry_of (Gathering geometry areas) = Some geometry
geometry_of stage = None

-- one that holds these bytes of a file comes after those that were
pub record IsAdded (bytes : List ℕ) (olds news : List MirrorArea) : Type 0 where
  pub area : MirrorArea
  pub file : IsOfFile bytes area
  pub added : news ≡ olds ++ (area ∷ [])

-- the areas become a store that is down; or the first that does not fit is named, and the session is over; only gathered areas do so
abbrev pub StartsStage : SessionState → Result (Unit {0}) Refusal → SessionState → Type 0
StartsStage (Gathering geometry areas) (Ok its) new = (store : SessionStore) × (new ≡ Open store) × (store.phase ≡ Down (begun geometry areas.items))
StartsStage (Gathering geometry areas) (Err refusal) new = (new ≡ Over) × (area : ℕ) × (refusal ≡ BadGeometry area)
    × IsLeast (λ k. slice_get (map (λ m. length (mirror_now m)) areas.items) k ≢ area_len geometry k) area
StartsStage old result new = (result ≡ Err OutOfTurn) × (new ≡ old)

-- Its store takes steps

-- the event is none that stops all nodes
abbrev pub is_step : Event → Bool
is_step (Stop choices) = false
is_step event = true

-- there is no reply where there was no memory
abbrev pub replied : Result Reply AllocError → Option Reply
replied (Ok reply) = Some reply
replied (Err error) = None

-- a store that is open takes the step, or wants memory for it; else it is refused, and nothing has changed
abbrev pub StepsStage : SessionState → Event → Result Reply AllocError → SessionState → Type 0
StepsStage (Open store) event said new = (after : SessionStore) × (new ≡ Open after) × ComesTo ghosts store event (replied said) after
StepsStage old event said new = (said ≡ Ok (Refused (refusal_of old))) × (new ≡ old)

-- Its areas

-- the area at this place in the order of the store, where there is one
abbrev pub AreaAt : SessionState → ℕ → Option MirrorArea → Type 0
AreaAt (Gathering geometry areas) place area = area ≡ slice_get areas.items place
AreaAt (Open store) place area = (g : Geometry) (areas : List MirrorArea) → HasAreas ghosts store.phase g areas → area ≡ slice_get areas place
AreaAt Over place area = area ≡ None
