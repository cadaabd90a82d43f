-- Of the store: what a truncation of a node's log is: its flush, the writes of the pages that are due, none of which
-- begins where one is blocked, and its reset, up to the first refusal.
use Rattle.std.specs.Prelude.{◌≡◌, ℕ, ◌+◌, ◌-◌, ◌<◌, ◌⊎◌, Bool, true, false, Option, Some, None, MatchOption, slice_get, suc, zero}
use Rattle.lc_disk.specs.declared.area.Area.{Ghosts}
use Rattle.lc_model.specs.declared.event.Event.{Event}
use Rattle.lc_model.specs.declared.event.Event.TheVariants.{FlushStep, PageStep, ResetStep}
use Rattle.lc_model.specs.declared.refusal.Refusal.{Refusal}
use Rattle.lc_model.specs.declared.refusal.Refusal.TheVariants.{Uncommitted}
use Rattle.lc_model.specs.declared.reply.Reply.{Reply}
use Rattle.lc_model.specs.declared.reply.Reply.TheVariants.{Acked, Nothing, Refused, Stepped}
use Rattle.lc_core.specs.Calls.{CallsArea}
use Rattle.lc_core.specs.Faults.{CountsPhase}
use Rattle.lc_core.specs.Geometries.{RefusesOutside, phase_geometry}
use Rattle.lc_events.specs.MayReply.{may_reply}
use Rattle.lc_core.specs.Recovers.{RefusesAtOnce}
use Rattle.lc_desk.specs.Uncommitted.{HasSeatOn}
use Rattle.lc_core.specs.Lives.{Anyhow}
use Rattle.lc_core.specs.World.{FollowsWorld}
use Rattle.lc_events.specs.declared.node_state.NodeState.{NodeState}
use Rattle.lc_desk.specs.declared.pages.Pages.{Pages}
use Rattle.lc_core.specs.declared.world_phase.WorldPhase.{WorldPhase}
use Rattle.lc_core.specs.declared.world_phase.WorldPhase.TheVariants.{Down, Up, Taken}
use Rattle.lc_core.specs.declared.world.World.{World}
use Rattle.lc_desk.specs.Truncating.{begun_at, under_way_at}
use Rattle.lc_events.specs.Truncating.{due_in, newer_in, refusal_in}

-- the events that a truncation is made of
abbrev pub empties : Event → Bool
empties (FlushStep node) = true
empties (PageStep node segment page) = true
empties (ResetStep node) = true
empties event = false

-- the reply that ends a row of calls: any but that more are to come
abbrev pub ending : Reply → Option Reply
ending (Stepped calls) = None
ending reply = Some reply

-- what a flush may answer that leaves more to do; any other reply is the last of the truncation
abbrev pub stopping : Reply → Option Reply
stopping (Acked count) = None
stopping Nothing = None
stopping reply = Some reply

abbrev pub begun_in : ℕ → {D : Type 0} {a : Ghosts D} → Option (Pages D a) → Bool
begun_in page None = false
begun_in page (Some pages) = begun_at (slice_get pages.writes.items page)

abbrev pub due_at : ℕ → ℕ → Bool → {D : Type 0} {a : Ghosts D} → Option (NodeState D a) → Bool
due_at segment page begun None = false
due_at segment page begun (Some node) = due_in page begun (slice_get node.desk.here.slots.items (segment - 1))

abbrev pub under_way_in : ℕ → {D : Type 0} {a : Ghosts D} → Option (Pages D a) → Option ℕ
under_way_in page None = None
under_way_in page (Some pages) = under_way_at (slice_get pages.writes.items page)

abbrev pub newer_at : ℕ → ℕ → Option ℕ → {D : Type 0} {a : Ghosts D} → Option (NodeState D a) → Bool
newer_at segment page under_way None = false
newer_at segment page under_way (Some node) = newer_in page under_way (slice_get node.desk.here.slots.items (segment - 1))

-- a transaction of the node that is not over has set a position on the page
abbrev pub HasOpenOn : ℕ → ℕ → {D : Type 0} {a : Ghosts D} → Option (NodeState D a) → Type 0
HasOpenOn segment page None = ⊥
HasOpenOn segment page (Some node) = HasSeatOn segment page node.desk.seats.items

module _ {D : Type 0} (a : Ghosts D) where
  -- the page of the segment, from 1, is to be written at the node
  abbrev pub is_due : WorldPhase D a → ℕ → ℕ → ℕ → Bool
  is_due (Up up) node segment page =
      due_at segment page (begun_in page (slice_get up.segments.items (segment - 1))) (slice_get up.running.nodes.items node)
  is_due (Down recovery) node segment page = false
  is_due Taken node segment page = false

  -- how many segments a store has that is up, and pages each of them
  abbrev pub sizes_of : WorldPhase D a → ℕ × ℕ
  sizes_of (Up up) = (up.running.geometry.segments, up.running.geometry.pages)
  sizes_of (Down recovery) = (0, 0)
  sizes_of Taken = (0, 0)

  -- the page of the segment, from 1, is to be written at the node, now or after the write that is under way. And that
  -- write would be refused, since a transaction that is not over has set a position on the page
  abbrev pub IsBlocked : WorldPhase D a → ℕ → ℕ → ℕ → Type 0
  IsBlocked (Up up) node segment page =
      (newer_at segment page (under_way_in page (slice_get up.segments.items (segment - 1))) (slice_get up.running.nodes.items node) ≡ true)
      × HasOpenOn segment page (slice_get up.running.nodes.items node)
  IsBlocked (Down recovery) node segment page = ⊥
  IsBlocked Taken node segment page = ⊥

  -- so is one of the first pages of a segment
  pub record HasBlockedIn (phase : WorldPhase D a) (node segment pages : ℕ) : Type 0 where
    pub page : ℕ
    pub within : page < pages
    pub blocked : IsBlocked phase node segment page

  -- so is one of these pages of so many segments
  pub record HasBlocked (phase : WorldPhase D a) (node : ℕ) (sizes : ℕ × ℕ) : Type 0 where
    pub place : ℕ
    pub inside : place < sizes.0
    pub blocked : HasBlockedIn phase node (place + 1) sizes.1

  -- an event that wants no memory, and is no stop, led from the one store to the other under this reply
  pub record StepsTo (old : World D a) (event : Event) (reply : Reply) (new : World D a) : Type 0 where
    pub follows : FollowsWorld a old event reply new
    pub anyhow : Anyhow a old.phase event reply new.phase
    pub at_once : RefusesAtOnce a old.phase event reply new.phase
    pub faults : CountsPhase a old.phase reply new.phase
    pub geometry : phase_geometry a new.phase ≡ phase_geometry a old.phase
    pub unknown : RefusesOutside a old.phase event reply
    pub calls : CallsArea a old.phase event reply new.phase
    pub names : may_reply event reply ≡ true

  -- the event again and again, as long as more is to come, this often and once more at most; the last reply is this
  abbrev pub Repeats : ℕ → Event → World D a → Reply → World D a → Type 0
  Repeats zero event old reply new = StepsTo old event reply new
  Repeats (suc left) event old reply new =
      (first : Reply) × (mid : World D a) × StepsTo old event first mid
      × MatchOption (ending first) (Repeats left event mid reply new) (λ last. (reply ≡ last) × (new ≡ mid))

  -- a page that is due makes one call; one that is not makes none
  abbrev pub CallsIf : Bool → ℕ → ℕ → ℕ → World D a → Option Refusal → World D a → Type 0
  CallsIf true node segment page old refused new = (reply : Reply) × StepsTo old (PageStep node segment page) reply new × (refused ≡ refusal_in reply)
  CallsIf false node segment page old refused new = (refused ≡ None) × (new ≡ old)

  abbrev pub CallsDue : ℕ → ℕ → ℕ → World D a → Option Refusal → World D a → Type 0
  CallsDue node segment page old refused new = CallsIf (is_due old.phase node segment page) node segment page old refused new

  -- so many pieces of work from this one on, one after another, up to the first refusal
  abbrev pub EachFrom : ℕ → ℕ → (ℕ → World D a → Option Refusal → World D a → Type 0) → World D a → Option Refusal → World D a → Type 0
  EachFrom zero k Does old refused new = (refused ≡ None) × (new ≡ old)
  EachFrom (suc left) k Does old refused new =
      (first : Option Refusal) × (mid : World D a) × Does k old first mid
      × MatchOption first (EachFrom left (k + 1) Does mid refused new) (λ refusal. (refused ≡ Some refusal) × (new ≡ mid))

  -- a round: each page of the segment that is due makes its next call, in the order of the pages
  abbrev pub Round : ℕ → ℕ → ℕ → World D a → Option Refusal → World D a → Type 0
  Round node segment pages old refused new = EachFrom pages 0 (CallsDue node segment) old refused new

  -- Thirteen rounds leave no page due: a write has six calls, and one that was under way may have another after it.
  abbrev pub WritesSegment : ℕ → ℕ → ℕ → World D a → Option Refusal → World D a → Type 0
  WritesSegment node segment pages old refused new = EachFrom 13 0 (λ round. Round node segment pages) old refused new

  -- the segments in their order, which are numbered from 1
  abbrev pub WritesPages : ℕ → ℕ × ℕ → World D a → Option Refusal → World D a → Type 0
  WritesPages node sizes old refused new = EachFrom sizes.0 0 (λ place. WritesSegment node (place + 1) sizes.1) old refused new

  -- the pages are written, and then the log is reset
  abbrev pub Cleans : ℕ → World D a → Reply → World D a → Type 0
  Cleans node old reply new =
      (refused : Option Refusal) × (written : World D a) × WritesPages node (sizes_of old.phase) old refused written
      × MatchOption refused (Repeats 3 (ResetStep node) written reply new) (λ refusal. (reply ≡ Refused refusal) × (new ≡ written))

  -- where a page is blocked none is written
  abbrev pub AsksFirst : ℕ → World D a → Reply → World D a → Type 0
  AsksFirst node old reply new =
      (HasBlocked old.phase node (sizes_of old.phase) × (reply ≡ Refused Uncommitted) × (new ≡ old))
      ⊎ ((HasBlocked old.phase node (sizes_of old.phase) → ⊥) × Cleans node old reply new)

  -- the log is flushed before
  abbrev pub Truncates : ℕ → World D a → Reply → World D a → Type 0
  Truncates node old reply new =
      (first : Reply) × (flushed : World D a) × Repeats 3 (FlushStep node) old first flushed
      × MatchOption (stopping first) (AsksFirst node flushed reply new) (λ last. (reply ≡ last) × (new ≡ flushed))
