-- What a truncation of a node's log is by the machine and the numbers beside it: its flush, the writes of the pages that are due,
-- none of which begins where one is blocked, and its reset, up to the first refusal.
use Rattle.std.specs.Prelude.{◌≡◌, ℕ, zero, suc, ◌+◌, ◌<◌, ◌⊎◌, Bool, true, false, Option, None, Some, MatchOption}
use Rattle.lc_model.specs.State.{Setting, State}
use Rattle.lc_model.specs.declared.event.Event.{Event}
use Rattle.lc_model.specs.declared.event.Event.TheVariants.{FlushStep, PageStep, ResetStep}
use Rattle.lc_model.specs.declared.refusal.Refusal.{Refusal}
use Rattle.lc_model.specs.declared.refusal.Refusal.TheVariants.{Uncommitted}
use Rattle.lc_model.specs.declared.reply.Reply.{Reply}
use Rattle.lc_model.specs.declared.reply.Reply.TheVariants.{Refused}
use Rattle.lc_core.specs.Due.{is_blocked_then, is_due_then}
use Rattle.lc_settled.specs.Numbers.{Numbers}
use Rattle.lc_core.specs.Truncating.{ending, stopping}
use Rattle.lc_events.specs.Truncating.{refusal_in}
use Rattle.lc_tool.specs.Answers.{Answers}

-- A piece of work: from a state and numbers to others, with why it was refused, if it was.
abbrev pub Piece : Type 1
Piece = State → Numbers → Option Refusal → State → Numbers → Type 0

module _ (m : Setting) where
  -- the event again and again, as long as more is to come, this often and once more at most; the last reply is this
  abbrev pub Repeats : ℕ → Event → State → Numbers → Reply → State → Numbers → Type 0
  Repeats zero event s x reply after next = Answers m s x event reply after next
  Repeats (suc left) event s x reply after next =
      (first : Reply) × (mid : State) × (between : Numbers) × Answers m s x event first mid between
      × MatchOption (ending first) (Repeats left event mid between reply after next) (λ last. (reply ≡ last) × (after ≡ mid) × (next ≡ between))

  -- a page that is due makes one call; one that is not makes none
  abbrev pub CallsIf : Bool → ℕ → ℕ → ℕ → Piece
  CallsIf true node segment page s x refused after next =
      (reply : Reply) × Answers m s x (PageStep node segment page) reply after next × (refused ≡ refusal_in reply)
  CallsIf false node segment page s x refused after next = (refused ≡ None) × (after ≡ s) × (next ≡ x)

  abbrev pub CallsDue : ℕ → ℕ → ℕ → Piece
  CallsDue node segment page s x refused after next = CallsIf (is_due_then s x node segment page) node segment page s x refused after next

  -- so many pieces of work from this one on, one after another, up to the first refusal
  abbrev pub EachFrom : ℕ → ℕ → (ℕ → Piece) → Piece
  EachFrom zero k Does s x refused after next = (refused ≡ None) × (after ≡ s) × (next ≡ x)
  EachFrom (suc left) k Does s x refused after next =
      (first : Option Refusal) × (mid : State) × (between : Numbers) × Does k s x first mid between
      × MatchOption first (EachFrom left (k + 1) Does mid between refused after next)
      (λ refusal. (refused ≡ Some refusal) × (after ≡ mid) × (next ≡ between))

  -- each page of the segment that is due makes its next call, in the order of the pages
  abbrev pub Round : ℕ → ℕ → Piece
  Round node segment = EachFrom m.geometry.pages 0 (CallsDue node segment)

  -- thirteen rounds leave no page due: a write has six calls, and one that was under way may have another after it
  abbrev pub WritesSegment : ℕ → ℕ → Piece
  WritesSegment node segment = EachFrom 13 0 (λ round. Round node segment)

  -- the segments in their order, which are numbered from 1
  abbrev pub WritesPages : ℕ → Piece
  WritesPages node = EachFrom m.geometry.segments 0 (λ place. WritesSegment node (place + 1))

  -- the pages are written, and then the log is reset
  abbrev pub Cleans : ℕ → State → Numbers → Reply → State → Numbers → Type 0
  Cleans node s x reply after next =
      (refused : Option Refusal) × (written : State) × (between : Numbers) × WritesPages node s x refused written between
      × MatchOption refused (Repeats 3 (ResetStep node) written between reply after next)
      (λ refusal. (reply ≡ Refused refusal) × (after ≡ written) × (next ≡ between))

  -- some page is blocked at the node
  pub record HasBlocked (node : ℕ) (s : State) (x : Numbers) : Type 0 where
    pub place : ℕ
    pub inside : place < m.geometry.segments
    pub page : ℕ
    pub within : page < m.geometry.pages
    pub blocked : is_blocked_then s x node (place + 1) page ≡ true

  -- where some page is, none is written
  abbrev pub AsksFirst : ℕ → State → Numbers → Reply → State → Numbers → Type 0
  AsksFirst node s x reply after next =
      (HasBlocked node s x × (reply ≡ Refused Uncommitted) × (after ≡ s) × (next ≡ x)) ⊎ ((HasBlocked node s x → ⊥) × Cleans node s x reply after next)

  -- the log is flushed before: this is the last reply, and these are the state and the numbers after it
  abbrev pub Truncates : ℕ → State → Numbers → Reply → State → Numbers → Type 0
  Truncates node s x reply after next =
      (first : Reply) × (flushed : State) × (between : Numbers) × Repeats 3 (FlushStep node) s x first flushed between
      × MatchOption (stopping first) (AsksFirst node flushed between reply after next) (λ last. (reply ≡ last) × (after ≡ flushed) × (next ≡ between))
