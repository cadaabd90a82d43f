-- Of the store: what it is that a store follows the machine and the numbers over a list of events.
use Rattle.std.specs.Prelude.{◌≡◌, ◌⊎◌, true, List, [], length, take, Some, slice_get}
use Rattle.lc_disk.specs.declared.area.Area.{Ghosts}
use Rattle.lc_record.specs.Content.{Content}
use Rattle.lc_record.specs.declared.geometry.Geometry.{Geometry}
use Rattle.lc_recover.specs.Reads.{AllMergeTo, AreHonest}
use Rattle.lc_model.specs.Recovered.{zero_content}
use Rattle.lc_model.specs.State.{Setting, State, first_state}
use Rattle.lc_model.specs.declared.event.Event.{Event}
use Rattle.lc_model.specs.declared.reply.Reply.{Reply}
use Rattle.lc_core.specs.Asks.{EventAsks, may_grow}
use Rattle.lc_settled.specs.Numbers.{Numbers}
use Rattle.lc_core.specs.World.{FitsWorld}
use Rattle.lc_core.specs.declared.world.World.{World}
use Rattle.lc_settled.specs.Runs.{RunsOn}

-- a store of zeros
abbrev pub of_zeros : Geometry → Setting
of_zeros g = record { geometry = g; start = zero_content g }

-- what holds of a run on it
abbrev pub OnZeros : Geometry → (Setting → Numbers → Type 0) → Type 0
OnZeros g P = (x : Numbers) → x.disks.numbers ≡ (λ segment. 0) → x.steps ≡ 0 → P (of_zeros g) x

-- from the first state: each reply is settled
abbrev pub AreSettled : Setting → Numbers → List Event → List Reply → Type 0
AreSettled m x events replies = (after : State) × (next : Numbers) × RunsOn m (first_state m.geometry) x events replies after next

-- the event after those that were answered needs room in some state
abbrev pub GrowsNext : List Event → List Reply → Type 0
GrowsNext events replies = (event : Event) × (slice_get events (length replies) ≡ Some event) × (may_grow event ≡ true)

module _ {D : Type 0} (a : Ghosts D) where
  -- whatever state and numbers it fits
  abbrev pub FollowsRun : World D a → List Event → List Reply → World D a → Type 0
  FollowsRun old events replies new =
      (m : Setting) (s : State) (x : Numbers) → FitsWorld a m old s x
      → (after : State) × (next : Numbers) × RunsOn m s x events replies after next × FitsWorld a m new after next

  -- from the first state: the store fits where a run of settled replies has come to
  abbrev pub Settles : Setting → Numbers → List Event → List Reply → World D a → Type 0
  Settles m x events replies new =
      (after : State) × (next : Numbers) × RunsOn m (first_state m.geometry) x events replies after next × FitsWorld a m new after next

  -- the event after those that were answered asks for memory where the run has come to
  pub record AsksNext (m : Setting) (s : State) (x : Numbers) (events : List Event) (replies : List Reply) (new : World D a) : Type 0 where
    pub after : State
    pub next : Numbers
    pub run : RunsOn m s x (take (length replies) events) replies after next
    pub fits : FitsWorld a m new after next
    pub event : Event
    pub is_next : slice_get events (length replies) ≡ Some event
    pub asks : EventAsks m after next event

  -- a run that wants memory has answered no event, or the next one asks for it
  abbrev pub GivesUp : World D a → List Event → List Reply → World D a → Type 0
  GivesUp old events replies new =
      (replies ≡ [])
      ⊎ (GrowsNext events replies
      × ((m : Setting) (s : State) (x : Numbers) → FitsWorld a m old s x → AsksNext m s x events replies new))

  -- what holds of a run on honest areas, whatever content and numbers all that a stop may have left of them merges to
  abbrev pub OnAreas : Geometry → List D → (Setting → Numbers → Type 0) → Type 0
  OnAreas g areas P =
      (start : Content) (x : Numbers) → AreHonest a areas → AllMergeTo a g areas start x.disks.numbers → x.steps ≡ 0
      → P (record { geometry = g; start = start }) x
