-- Which events ask for memory.
use Rattle.std.specs.Prelude.{◌≡◌, ◌⊎◌, ℕ, ◌+◌, ◌<◌, ◌≤◌, Bool, true, false, Some, None}
use Rattle.lc_record.specs.Content.{segment_of}
use Rattle.lc_record.specs.Transaction.{Transaction, all_set}
use Rattle.lc_record.specs.declared.record.Record.{Record}
use Rattle.lc_recover.specs.Reads.{area_count}
use Rattle.lc_recover.specs.Recovery.{all_steps}
use Rattle.lc_recover.specs.Steps.{first_steps}
use Rattle.lc_model.specs.Refusals.{common_refusal, is_up, read_refusal, set_range_refusal}
use Rattle.lc_model.specs.State.{State, Setting, running_of}
use Rattle.lc_model.specs.declared.event.Event.{Event}
use Rattle.lc_model.specs.declared.event.Event.TheVariants.{SetRange, Read, Reserve, Deliver, RecoverStep}
use Rattle.lc_events.specs.Delivers.{CopiesPart}
use Rattle.lc_settled.specs.Numbers.{Numbers}
use Rattle.lc_desk.specs.Prepares.{GetsPlace}

-- the thread's open transaction may set the range, and some position of it is not set yet
pub record SetsMore (m : Setting) (s : State) (node thread segment offset len : ℕ) : Type 0 where
  pub transaction : Transaction
  pub running : running_of node thread s ≡ Some transaction
  pub allowed : set_range_refusal m.geometry transaction segment offset len ≡ None
  pub more : all_set offset len (segment_of segment transaction.marks) ≡ false

-- the thread's open transaction may read these bytes, and there is one at least
pub record ReadsSome (m : Setting) (s : State) (node thread segment offset len : ℕ) : Type 0 where
  pub transaction : Transaction
  pub running : running_of node thread s ≡ Some transaction
  pub allowed : read_refusal m.geometry transaction segment offset len ≡ None
  pub some : 0 < len

-- the step of a recovery reads an area, merges all, or is the last
abbrev pub TakesRoom : Setting → Numbers → Type 0
TakesRoom m x =
    ((area_count m.geometry ≤ x.steps) × (x.steps < first_steps m.geometry))
    ⊎ ((pages : ℕ) × (x.steps + 1 ≡ all_steps m.geometry pages))

-- What an event needs room for: a position more that is set, bytes that are read, a record that gets its place, a record
-- that is new to its receiver, unless it is the next there and none waits, and what a recovery reads, merges and brings up. No
-- other event needs any, a begin neither.
abbrev pub Grows : Setting → State → Numbers → Event → Type 0
Grows m s x (SetRange node thread segment offset len) = SetsMore m s node thread segment offset len
Grows m s x (Read node thread segment offset len) = ReadsSome m s node thread segment offset len
Grows m s x (Reserve node thread) = (place : ℕ) × GetsPlace m node thread s x place
Grows m s x (Deliver sender number segment to) = (r : Record) × CopiesPart m s x sender number segment to r
Grows m s x RecoverStep = (is_up s.phase ≡ false) × TakesRoom m x
Grows m s x event = ⊥

-- the events that need room in some state
abbrev pub may_grow : Event → Bool
may_grow (SetRange node thread segment offset len) = true
may_grow (Read node thread segment offset len) = true
may_grow (Reserve node thread) = true
may_grow (Deliver sender number segment to) = true
may_grow RecoverStep = true
may_grow event = false

-- an event that nothing refuses at once, and that needs room
abbrev pub EventAsks : Setting → State → Numbers → Event → Type 0
EventAsks m s x event = (common_refusal m.geometry s event ≡ None) × Grows m s x event
