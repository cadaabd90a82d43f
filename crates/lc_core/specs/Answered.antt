-- Of the store: what the calls of a store hand out, as the replies to their events.
use Rattle.std.specs.Prelude.{◌≡◌, ℕ, Bool, false, Option, Some, None, Result, Ok, Err}
use Rattle.std.specs.declared.alloc.AllocError.{AllocError}
use Rattle.lc_disk.specs.declared.area.Area.{Ghosts}
use Rattle.lc_model.specs.declared.event.Event.{Event}
use Rattle.lc_model.specs.declared.event.Event.TheVariants.{SetRange, Read, Reserve, Deliver, Close}
use Rattle.lc_model.specs.declared.refusal.Refusal.{Refusal}
use Rattle.lc_model.specs.declared.reply.Reply.{Reply}
use Rattle.lc_core.specs.Calls.{KeepsAreas}
use Rattle.lc_core.specs.Faults.{phase_failures}
use Rattle.lc_core.specs.Geometries.{phase_geometry}
use Rattle.lc_core.specs.Lives.{StillLives}
use Rattle.lc_core.specs.Stepping.{works_up}
use Rattle.lc_core.specs.Truncating.{StepsTo}
use Rattle.lc_core.specs.World.{AsksIn, AsksWorld, StillFitsWorld}
use Rattle.lc_events.specs.declared.call_fault.CallFault.{CallFault}
use Rattle.lc_events.specs.declared.placement.Placement.{Placement}
use Rattle.lc_events.specs.declared.placement.Placement.TheVariants.{Record as HasRecord}
use Rattle.lc_core.specs.declared.world.World.{World}
use Rattle.lc_events.specs.Answered.{closed_at, done, place_taken}

-- Which events want no memory, and which of these are done or refused and answer nothing else

abbrev pub takes_none : Event → Bool
takes_none (SetRange node thread segment offset len) = false
takes_none (Read node thread segment offset len) = false
takes_none (Reserve node thread) = false
takes_none (Deliver sender number segment to) = false
takes_none event = works_up event

module _ {D : Type 0} (a : Ghosts D) where
  -- the event asks for memory, nothing has changed, and no area was called
  pub record WantsMemory (old : World D a) (event : Event) (new : World D a) : Type 0 where
    pub asks : AsksWorld a old event
    pub at_all : AsksIn a old.phase event
    pub still : StillFitsWorld a old new
    pub lives : StillLives a old.phase new.phase
    pub failures : phase_failures a new.phase ≡ phase_failures a old.phase
    pub geometry : phase_geometry a new.phase ≡ phase_geometry a old.phase
    pub kept : KeepsAreas a old.phase new.phase

  -- the event led from the one store to the other under this reply, or it wanted memory
  abbrev pub ComesTo : World D a → Event → Option Reply → World D a → Type 0
  ComesTo old event (Some reply) new = StepsTo a old event reply new
  ComesTo old event None new = WantsMemory old event new

  -- so it did where this is answered, or there was no memory
  abbrev pub Tries : World D a → Event → Result Reply AllocError → World D a → Type 0
  Tries old event (Ok reply) new = StepsTo a old event reply new
  Tries old event (Err fault) new = WantsMemory old event new

  -- a reservation that has a record is closed, and nothing else is
  abbrev pub ClosesBehind : ℕ → ℕ → Result Placement CallFault → World D a → Result Placement CallFault → World D a → Type 0
  ClosesBehind node thread (Ok (HasRecord place words)) old result new =
      (closed : Result (Unit {0}) Refusal) × StepsTo a old (Close node thread) (done closed) new × (result ≡ closed_at closed (HasRecord place words))
  ClosesBehind node thread first old result new = (result ≡ first) × (new ≡ old)

  -- the transaction gets its place, and is closed there
  abbrev pub Ends : ℕ → ℕ → World D a → Result Placement CallFault → World D a → Type 0
  Ends node thread old result new =
      (first : Result Placement CallFault) × (mid : World D a) × ComesTo old (Reserve node thread) (place_taken first) mid × ClosesBehind node thread first mid result new
