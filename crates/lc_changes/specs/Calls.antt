-- Calls of any threads on a store whose transactions work on images without a lock, and the list of events that these calls are.
use Rattle.std.specs.Prelude.{◌≡◌, ◌≢◌, ◌↔◌, ℕ, true, false, ◌==◌, ◌&&◌, ◌⊎◌, if◌then◌else◌, List, [], ◌∷◌, ◌++◌, map, take, drop, Option, Some, None}
use Rattle.lc_record.specs.Content.{Content, segment_of}
use Rattle.lc_record.specs.Transaction.{Marks, Transaction, all_set, effect, effects}
use Rattle.lc_record.specs.Marks.{ascending, beside, no_marks, marked, written}
use Rattle.lc_record.specs.declared.geometry.Geometry.{Geometry}
use Rattle.lc_range.specs.RangeSet.{Has}
use Rattle.lc_range.specs.declared.range.Range.{Range}
use Rattle.lc_model.specs.History.{Entry, History}
use Rattle.lc_model.specs.Machine.{Run, Step}
use Rattle.lc_model.specs.Refusals.{is_known, read_refusal, set_range_refusal, write_refusal}
use Rattle.lc_model.specs.State.{State, Setting, Up, running_of}
use Rattle.lc_model.specs.declared.event.Event.{Event}
use Rattle.lc_model.specs.declared.event.Event.TheVariants.{Begin, SetRange, Write, Read, Abort, Reserve, Stop, RecoverStep}
use Rattle.lc_model.specs.declared.refusal.Refusal.{Refusal}
use Rattle.lc_model.specs.declared.refusal.Refusal.TheVariants.{OutOfTurn, Unknown}
use Rattle.lc_model.specs.declared.reply.Reply.{Reply}
use Rattle.lc_model.specs.declared.reply.Reply.TheVariants.{Bytes, Ok as Accepted, Refused}
use Rattle.lc_changes.specs.Gathering.{LieInImages}
use Rattle.lc_changes.specs.Images.{Does, FitsImages, Images, IsSame}

-- Calls

-- what an open transaction does to the images; a put is a range that is set and a write
pub data Work : Type 0 where
  Sets : (segment offset len : ℕ) → Work
  Writes : (segment offset : ℕ) (bytes : List ℕ) → Work
  Reads : (segment offset len : ℕ) → Work

pub data Call : Type 0 where
  -- work of an open transaction, without the lock
  Works : (node thread : ℕ) (work : Work) (reply : Reply) → Call
  -- a call that is out of turn, or names what is not there
  Strays : (event : Event) (reply : Reply) → Call
  -- one event under the lock, as a begin, a close or a step of a flush
  Steps : (event : Event) (reply : Reply) → Call
  -- an abort, under the lock
  Aborts : (node thread : ℕ) → Call
  -- an end, under the lock: the ranges are handed over with their bytes, and the transaction is reserved
  Ends : (node thread : ℕ) (ranges : List Range) (reply : Reply) → Call
  -- an end that is refused: the transaction is aborted and begun again with its locks, and its work stays
  Fails : (node thread : ℕ) (ranges : List Range) (refusal : Refusal) (segments reading : List ℕ) → Call
  -- an end that finds no memory for one of its ranges: the same
  Breaks : (node thread : ℕ) (ranges : List Range) (segments reading : List ℕ) → Call

-- What a program has beside the store

-- the image of each segment, what was kept of it for an abort, and the positions that each thread's transaction has set
pub record Workspace : Type 0 where
  pub images : Images
  pub olds : Images
  pub set : ℕ → ℕ → Marks

-- it is the same
pub record SameWorkspace (old new : Workspace) : Type 0 where
  pub images : IsSame old.images new.images
  pub olds : IsSame old.olds new.olds
  pub set : (node thread : ℕ) → new.set node thread ≡ old.set node thread

-- the table with one thread's entry changed
abbrev pub at_thread : {A : Type 0} → (ℕ → ℕ → A) → ℕ → ℕ → A → ℕ → ℕ → A
at_thread table node thread item n k = if (n == node) && (k == thread) then item else table n k

-- the event that work is
abbrev pub event_of : ℕ → ℕ → Work → Event
event_of node thread (Sets segment offset len) = SetRange node thread segment offset len
event_of node thread (Writes segment offset bytes) = Write node thread segment offset bytes
event_of node thread (Reads segment offset len) = Read node thread segment offset len

-- the answer, unless it is refused
abbrev pub refused_or : Option Refusal → Reply → Reply
refused_or None reply = reply
refused_or (Some refusal) reply = Refused refusal

-- what work is answered of a transaction, where a read finds these bytes
abbrev pub answer : Geometry → Transaction → Images → Work → Reply
answer g t images (Sets segment offset len) = refused_or (set_range_refusal g t segment offset len) Accepted
answer g t images (Writes segment offset bytes) = refused_or (write_refusal g t segment offset bytes) Accepted
answer g t images (Reads segment offset len) = refused_or (read_refusal g t segment offset len) (Bytes (take len (drop offset (images segment))))

-- the transaction with work that was answered
abbrev pub worked : Transaction → Work → Reply → Transaction
worked t (Sets segment offset len) Accepted = marked t segment offset len
worked t (Writes segment offset bytes) Accepted = written t segment offset bytes
worked t work reply = t

-- the transaction, with what its thread has set
abbrev pub with_set : Transaction → Marks → Transaction
with_set t marks = record t { marks = marks }

-- the same transaction but for what it has set and written
abbrev pub OnlyHasSet : Transaction → Transaction → Type 0
OnlyHasSet t done = done ≡ record t { marks = done.marks; writes = done.writes }

-- the bytes of a segment that the transaction reads, over this content
abbrev pub shown : Transaction → Content → Images
shown t content segment = segment_of segment (effect t content)

-- What each call does

-- the store is up, and no device of it has failed
pub record IsWorking (s : State) : Type 0 where
  pub up : s.phase ≡ Up
  pub not_halted : (node : ℕ) → s.halted node ≡ false

-- the thread has no open transaction
abbrev pub HasNoneOpen : State → Event → Type 0
HasNoneOpen s (SetRange node thread segment offset len) = running_of node thread s ≡ None
HasNoneOpen s (Write node thread segment offset bytes) = running_of node thread s ≡ None
HasNoneOpen s (Read node thread segment offset len) = running_of node thread s ≡ None
HasNoneOpen s (Abort node thread) = running_of node thread s ≡ None
HasNoneOpen s (Reserve node thread) = running_of node thread s ≡ None
HasNoneOpen s event = ⊥

-- an event of the store itself, or one by which a transaction begins or its record is closed
abbrev pub IsStep : Event → Type 0
IsStep (SetRange node thread segment offset len) = ⊥
IsStep (Write node thread segment offset bytes) = ⊥
IsStep (Read node thread segment offset len) = ⊥
IsStep (Abort node thread) = ⊥
IsStep (Reserve node thread) = ⊥
IsStep (Stop choices) = ⊥
IsStep RecoverStep = ⊥
IsStep event = Unit {0}

-- what threads have set, where one begins
abbrev pub set_by : Geometry → (ℕ → ℕ → Marks) → Event → Reply → ℕ → ℕ → Marks
set_by g set (Begin node thread segments reading) Accepted = at_thread set node thread (no_marks g)
set_by g set event reply = set

-- the events that hand ranges over with the bytes that the images have there
abbrev pub handing : ℕ → ℕ → Images → List Range → List Event
handing node thread images [] = []
handing node thread images (r ∷ rs) =
    SetRange node thread r.segment r.offset r.len
    ∷ Write node thread r.segment r.offset (take r.len (drop r.offset (images r.segment)))
    ∷ handing node thread images rs

-- each of these is accepted
abbrev pub accepting : List Range → List Reply
accepting [] = []
accepting (r ∷ rs) = Accepted ∷ Accepted ∷ accepting rs

-- the ranges have just the positions that are set
abbrev pub AreRangesOf : Marks → List Range → Type 0
AreRangesOf marks ranges = (segment k : ℕ) → Has ranges segment k ↔ (all_set k 1 (segment_of segment marks) ≡ true)

-- the thread's open transaction is left for a new one with the same locks
pub record BeginsAgain (m : Setting) (s mid : State) (node thread : ℕ) (segments reading : List ℕ) (new : State) : Type 0 where
  pub t : Transaction
  pub runs : running_of node thread s ≡ Some t
  pub same_locked : t.locked ≡ ascending m.geometry segments
  pub same_reading : t.reading ≡ ascending m.geometry (beside segments reading)
  pub left : State
  pub aborts : Step m mid (Abort node thread) Accepted left
  pub begins : Step m left (Begin node thread segments reading) Accepted new

-- work without the lock
pub record DoesWork (m : Setting) (s : State) (w : Workspace) (node thread : ℕ) (work : Work) (reply : Reply) (later : Workspace) : Type 0 where
  pub t : Transaction
  pub runs : running_of node thread s ≡ Some t
  pub known : is_known m.geometry (event_of node thread work) ≡ true
  pub answers : reply ≡ answer m.geometry (with_set t (w.set node thread)) w.images work
  pub does : Does m.geometry s (event_of node thread work) reply w.images w.olds later.images later.olds
  pub set : (n k : ℕ) → later.set n k
      ≡ at_thread w.set node thread (worked (with_set t (w.set node thread)) work reply).marks n k

-- an end under the lock, up to the answer of its reservation
pub record DoesEnd (m : Setting) (s : State) (w : Workspace) (node thread : ℕ) (ranges : List Range) (reply : Reply) (new : State) : Type 0 where
  pub t : Transaction
  pub runs : running_of node thread s ≡ Some t
  pub ranges_set : AreRangesOf (w.set node thread) ranges
  pub inside : LieInImages w.images ranges
  pub handed : State
  pub hands : Run m s (handing node thread w.images ranges) (accepting ranges) handed
  pub reserves : Step m handed (Reserve node thread) reply new

-- what a call does to the store and to the workspace, and what it is answered
abbrev pub Serves : Setting → State → Workspace → Call → State → Workspace → Type 0
Serves m s w (Works node thread work reply) new later = (new ≡ s) × DoesWork m s w node thread work reply later
Serves m s w (Strays event reply) new later =
    (((is_known m.geometry event ≡ false) × (reply ≡ Refused Unknown))
    ⊎ ((is_known m.geometry event ≡ true) × HasNoneOpen s event × (reply ≡ Refused OutOfTurn)))
    × (new ≡ s) × SameWorkspace w later
Serves m s w (Steps event reply) new later =
    IsStep event × Step m s event reply new × Does m.geometry s event reply w.images w.olds later.images later.olds
    × ((n k : ℕ) → later.set n k ≡ set_by m.geometry w.set event reply n k)
Serves m s w (Aborts node thread) new later =
    Step m s (Abort node thread) Accepted new × Does m.geometry s (Abort node thread) Accepted w.images w.olds later.images later.olds
    × ((n k : ℕ) → later.set n k ≡ w.set n k)
Serves m s w (Ends node thread ranges reply) new later =
    DoesEnd m s w node thread ranges reply new × ((refusal : Refusal) → reply ≢ Refused refusal) × SameWorkspace w later
Serves m s w (Fails node thread ranges refusal segments reading) new later =
    (mid : State) × DoesEnd m s w node thread ranges (Refused refusal) mid
    × BeginsAgain m s mid node thread segments reading new × SameWorkspace w later
Serves m s w (Breaks node thread ranges segments reading) new later =
    (mid : State) × Run m s (handing node thread w.images ranges) (accepting ranges) mid
    × BeginsAgain m s mid node thread segments reading new × SameWorkspace w later

-- calls one after another; none finds a failed device, and none stops the store
abbrev pub Called : Setting → State → Workspace → List Call → State → Workspace → Type 0
Called m s w [] new later = (new ≡ s) × (later ≡ w)
Called m s w (call ∷ calls) new later =
    (mid : State) × (between : Workspace) × Serves m s w call mid between × IsWorking mid × Called m mid between calls new later

-- The list of events

-- an event and its answer
pub record Answered : Type 0 where
  pub event : Event
  pub reply : Reply

abbrev pub answered : Event → Reply → Answered
answered event reply = record { event = event; reply = reply }

-- work and its answer
pub record Done : Type 0 where
  pub work : Work
  pub reply : Reply

-- work of a thread as events
abbrev pub as_events : ℕ → ℕ → List Done → List Answered
as_events node thread [] = []
as_events node thread (d ∷ ds) = answered (event_of node thread d.work) d.reply ∷ as_events node thread ds

-- no thread has worked
abbrev pub nothing_done : ℕ → ℕ → List Done
nothing_done node thread = []

-- the work of each thread's transaction since it began, after one call more
abbrev pub done_by : (ℕ → ℕ → List Done) → Call → ℕ → ℕ → List Done
done_by done (Works node thread work reply) =
    at_thread done node thread (done node thread ++ record { work = work; reply = reply } ∷ [])
done_by done (Steps (Begin node thread segments reading) Accepted) = at_thread done node thread []
done_by done call = done

-- the events that stand for a call: with a transaction's end or abort all of its work comes first
abbrev pub block_of : (ℕ → ℕ → List Done) → Call → List Answered
block_of done (Works node thread work reply) = []
block_of done (Strays event reply) = answered event reply ∷ []
block_of done (Steps event reply) = answered event reply ∷ []
block_of done (Aborts node thread) = as_events node thread (done node thread) ++ answered (Abort node thread) Accepted ∷ []
block_of done (Ends node thread ranges reply) = as_events node thread (done node thread) ++ answered (Reserve node thread) reply ∷ []
block_of done (Fails node thread ranges refusal segments reading) =
    as_events node thread (done node thread)
    ++ answered (Reserve node thread) (Refused refusal)
    ∷ answered (Abort node thread) Accepted
    ∷ answered (Begin node thread segments reading) Accepted ∷ []
block_of done (Breaks node thread ranges segments reading) =
    answered (Abort node thread) Accepted ∷ answered (Begin node thread segments reading) Accepted ∷ []

-- the blocks of these calls, in their order
abbrev pub in_blocks : (ℕ → ℕ → List Done) → List Call → List Answered
in_blocks done [] = []
in_blocks done (call ∷ calls) = block_of done call ++ in_blocks (done_by done call) calls

-- the work of the transactions that these calls leave open
abbrev pub left_done : (ℕ → ℕ → List Done) → List Call → ℕ → ℕ → List Done
left_done done [] = done
left_done done (call ∷ calls) = left_done (done_by done call) calls

-- that of these transactions, one after another
abbrev pub blocks_left : (ℕ → ℕ → List Done) → List Transaction → List Answered
blocks_left done [] = []
blocks_left done (t ∷ ts) = as_events t.node t.thread (done t.node t.thread) ++ blocks_left done ts

-- the machine may answer these events so, one after another
abbrev pub Gives : Setting → State → List Answered → State → Type 0
Gives m s given new = Run m s (map (λ a. a.event) given) (map (λ a. a.reply) given) new

-- The state that it leaves

-- the same transaction but for its writes, which make the same of the content
pub record DiffersInWrites (content : Content) (e f : Entry) : Type 0 where
  pub closed : f.closed ≡ e.closed
  pub transaction : f.transaction ≡ record e.transaction { writes = f.transaction.writes }
  pub effect_is : effect f.transaction content ≡ effect e.transaction content

-- each entry of one history and of the other, at its place
abbrev pub DifferInWrites : Content → History → History → Type 0
DifferInWrites content [] [] = Unit {0}
DifferInWrites content (e ∷ es) (f ∷ fs) = DiffersInWrites content e f × DifferInWrites (effect e.transaction content) es fs
DifferInWrites content [] (f ∷ fs) = ⊥
DifferInWrites content (e ∷ es) [] = ⊥

-- the same state but for the writes by which transactions came to their bytes
pub record IsLike (m : Setting) (s other : State) : Type 0 where
  pub beside : other ≡ record s { earlier = other.earlier; history = other.history }
  pub earlier : effects other.earlier m.start ≡ effects s.earlier m.start
  pub history : DifferInWrites (effects s.earlier m.start) s.history other.history

-- where the list ends once the work that is left is in it: in the same state but for what open transactions have set, each of them what
-- its thread has, and with what the images have for each read
pub record EndsLike (m : Setting) (new : State) (later : Workspace) (end : State) : Type 0 where
  pub like : IsLike m (record new { running = end.running }) end
  pub opened : (node thread : ℕ) (t : Transaction) → running_of node thread new ≡ Some t
      → (u : Transaction) × (running_of node thread end ≡ Some u) × (u ≡ record t { marks = later.set node thread; writes = u.writes })
  pub fits : FitsImages m end later.images later.olds

-- a stop, or a step of a recovery
abbrev pub IsStopOrRecovery : Event → Type 0
IsStopOrRecovery (Stop choices) = Unit {0}
IsStopOrRecovery RecoverStep = Unit {0}
IsStopOrRecovery event = ⊥
