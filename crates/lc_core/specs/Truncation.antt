-- What remains of a truncation between two of its steps, and what a step makes of that.
use Rattle.std.specs.Prelude.{◌≡◌, ℕ, ◌+◌, ◌-◌, ◌*◌, ◌<◌, ◌≤◌, ◌⊎◌, ⊤, true, Option, Some, None, MatchOption}
use Rattle.lc_disk.specs.declared.area.Area.{Ghosts}
use Rattle.lc_model.specs.declared.event.Event.{Event}
use Rattle.lc_model.specs.declared.event.Event.TheVariants.{FlushStep, ResetStep}
use Rattle.lc_model.specs.declared.refusal.Refusal.{Refusal}
use Rattle.lc_model.specs.declared.refusal.Refusal.TheVariants.{Uncommitted}
use Rattle.lc_model.specs.declared.reply.Reply.{Reply}
use Rattle.lc_model.specs.declared.reply.Reply.TheVariants.{Refused}
use Rattle.lc_core.specs.Truncating.{AsksFirst, CallsDue, EachFrom, HasBlocked, Repeats, Round, StepsTo, WritesSegment, empties, is_due, sizes_of, stopping}
use Rattle.lc_core.specs.declared.page_cursor.PageCursor.{PageCursor}
use Rattle.lc_core.specs.declared.truncation.Truncation.{Truncation}
use Rattle.lc_core.specs.declared.truncation_stage.TruncationStage.{TruncationStage}
use Rattle.lc_core.specs.declared.truncation_stage.TruncationStage.TheVariants.{Flushes, Asks, Writes, Resets}
use Rattle.lc_core.specs.declared.truncation_step.TruncationStep.{TruncationStep}
use Rattle.lc_core.specs.declared.truncation_step.TruncationStep.TheVariants.{Continues, Ends}
use Rattle.lc_core.specs.declared.world.World.{World}

-- one that has made no step
abbrev pub whole : ℕ → Truncation
whole node = record { node = node; stage = Flushes 3 }

-- the segment, from 1, that it is at
abbrev pub segment_in : TruncationStage → Option ℕ
segment_in (Writes cursor) = Some (cursor.place + 1)
segment_in stage = None

abbrev pub segment_of : Truncation → Option ℕ
segment_of truncation = segment_in truncation.stage

-- the cursor in the same segment, in this round and on this page
pub record IsOn (old : PageCursor) (round page : ℕ) (new : PageCursor) : Type 0 where
  pub segments : new.segments ≡ old.segments
  pub pages : new.pages ≡ old.pages
  pub place : new.place ≡ old.place
  pub round_is : new.round ≡ round
  pub page_is : new.page ≡ page

-- So many steps remain at most: four of the flush, the pages of sixteen segments in thirteen rounds, and four of the reset.
-- Two powers stand for the pages of a round and the rounds of a segment.
abbrev pub calls_left : PageCursor → ℕ
calls_left cursor = (cursor.segments - cursor.place) * 32768 + (13 - cursor.round) * 2048 + (cursor.pages - cursor.page)

abbrev pub steps_in : TruncationStage → ℕ
steps_in (Flushes more) = 1048576 + more
steps_in Asks = 1048575
steps_in (Writes cursor) = 5 + calls_left cursor
steps_in (Resets more) = more + 1

abbrev pub steps_left : Truncation → ℕ
steps_left truncation = steps_in truncation.stage

-- the same where the next page is known, if one is due
abbrev pub steps_if : Option PageCursor → ℕ
steps_if None = 4
steps_if (Some cursor) = 5 + calls_left cursor

module _ {D : Type 0} (a : Ghosts D) where
  -- one thing up to the first refusal, and then the other
  abbrev pub Then : (World D a → Option Refusal → World D a → Type 0) → (World D a → Option Refusal → World D a → Type 0) → World D a → Option Refusal → World D a → Type 0
  Then One Other old refused new =
      (first : Option Refusal) × (mid : World D a) × One old first mid × MatchOption first (Other mid refused new) (λ refusal. (refused ≡ Some refusal) × (new ≡ mid))

  -- the pages of a segment in this round from this one on, its further rounds, and the further segments
  abbrev pub WritesFrom : (node segments pages place round page : ℕ) → World D a → Option Refusal → World D a → Type 0
  WritesFrom node segments pages place round page =
      Then (EachFrom a (pages - page) page (CallsDue a node (place + 1)))
      (Then (EachFrom a (13 - (round + 1)) (round + 1) (λ its. Round a node (place + 1) pages))
      (EachFrom a (segments - (place + 1)) (place + 1) (λ its. WritesSegment a node (its + 1) pages)))

  abbrev pub WritesAt : ℕ → PageCursor → World D a → Option Refusal → World D a → Type 0
  WritesAt node cursor = WritesFrom node cursor.segments cursor.pages cursor.place cursor.round cursor.page

  -- the log is reset when pages were written, which a refusal ends
  abbrev pub ThenResets : ℕ → (World D a → Option Refusal → World D a → Type 0) → World D a → Reply → World D a → Type 0
  ThenResets node Pages old reply new =
      (refused : Option Refusal) × (written : World D a) × Pages old refused written
      × MatchOption refused (Repeats a 3 (ResetStep node) written reply new) (λ refusal. (reply ≡ Refused refusal) × (new ≡ written))

  -- the flush is made, and then all else
  abbrev pub ThenCleans : ℕ → ℕ → World D a → Reply → World D a → Type 0
  ThenCleans more node old reply new =
      (first : Reply) × (flushed : World D a) × Repeats a more (FlushStep node) old first flushed
      × MatchOption (stopping first) (AsksFirst a node flushed reply new) (λ last. (reply ≡ last) × (new ≡ flushed))

  -- what remains leads from the one store to the other, and this is the last reply
  abbrev pub RemainsIn : ℕ → TruncationStage → World D a → Reply → World D a → Type 0
  RemainsIn node (Flushes more) old reply new = ThenCleans more node old reply new
  RemainsIn node Asks old reply new = AsksFirst a node old reply new
  RemainsIn node (Writes cursor) old reply new = ThenResets node (WritesAt node cursor) old reply new
  RemainsIn node (Resets more) old reply new = Repeats a more (ResetStep node) old reply new

  abbrev pub Remains : Truncation → World D a → Reply → World D a → Type 0
  Remains truncation old reply new = RemainsIn truncation.node truncation.stage old reply new

  -- a step of what remained: it ended so, or what remains after the step is what remained
  abbrev pub Leads : (World D a → Reply → World D a → Type 0) → World D a → TruncationStep → World D a → Type 0
  Leads Remained old (Continues next) mid = (reply : Reply) (new : World D a) → Remains next mid reply new → Remained old reply new
  Leads Remained old (Ends reply) mid = Remained old reply mid

  -- what is written from a page that is due on, or nothing where none is
  abbrev pub WritesIf : ℕ → Option PageCursor → World D a → Option Refusal → World D a → Type 0
  WritesIf node None old refused new = (refused ≡ None) × (new ≡ old)
  WritesIf node (Some cursor) old refused new = WritesAt node cursor old refused new

  -- one event of a truncation was made
  pub record MakesOne (old new : World D a) : Type 0 where
    pub event : Event
    pub reply : Reply
    pub of_truncation : empties event ≡ true
    pub steps : StepsTo a old event reply new

  -- that, unless a page is blocked: then the truncation is over, and the store is as before
  abbrev pub MakesOneOf : ℕ → World D a → TruncationStep → World D a → Type 0
  MakesOneOf node old step new =
      MakesOne old new ⊎ ((step ≡ Ends (Refused Uncommitted)) × HasBlocked a old.phase node (sizes_of a old.phase) × (new ≡ old))

  -- fewer steps remain
  abbrev pub IsFewer : ℕ → TruncationStep → Type 0
  IsFewer left (Continues next) = steps_left next < left
  IsFewer left (Ends reply) = ⊤

  -- the same node's
  abbrev pub IsOf : ℕ → TruncationStep → Type 0
  IsOf node (Continues next) = next.node ≡ node
  IsOf node (Ends reply) = ⊤

  -- The next page that is due

  -- from a page on, the first of a segment that is due, if one is
  abbrev pub IsFirstDue : (node segment low high : ℕ) → World D a → Option ℕ → Type 0
  IsFirstDue node segment low high w None = EachFrom a (high - low) low (CallsDue a node segment) w None w
  IsFirstDue node segment low high w (Some page) =
      (low ≤ page) × (page < high) × (is_due a w.phase node segment page ≡ true)
      × ((refused : Option Refusal) (new : World D a) → EachFrom a (high - page) page (CallsDue a node segment) w refused new → EachFrom a (high - low) low (CallsDue a node segment) w refused new)

  -- a cursor on a page that is due
  pub record IsAtDue (node : ℕ) (w : World D a) (cursor : PageCursor) : Type 0 where
    pub within : cursor.page < cursor.pages
    pub due : is_due a w.phase node (cursor.place + 1) cursor.page ≡ true

  -- all that was to be written is as if it were begun there; with none nothing is to be written
  abbrev pub IsNext : ℕ → (World D a → Option Refusal → World D a → Type 0) → ℕ → World D a → Option PageCursor → Type 0
  IsNext node Pages left w None = Pages w None w
  IsNext node Pages left w (Some cursor) =
      IsAtDue node w cursor × (calls_left cursor ≤ left)
      × ((refused : Option Refusal) (new : World D a) → WritesAt node cursor w refused new → Pages w refused new)
