-- When an event is refused, whatever the machine may choose beside.
use Rattle.std.specs.Prelude.{◌≡◌, ℕ, ◌+◌, Bool, true, false, not, ◌&&◌, ◌||◌, ◌==◌, nat_lt, nat_le, if◌then◌else◌, List, [], ◌∷◌, ◌++◌, length, Option, Some, None, is_some}
use Rattle.std.specs.List.{list_all}
use Rattle.lc_record.specs.Content.{segment_of}
use Rattle.lc_record.specs.Transaction.{Transaction, is_member, locks, holds, all_set}
use Rattle.lc_record.specs.Geometry.{segment_len}
use Rattle.lc_record.specs.declared.geometry.Geometry.{Geometry}
use Rattle.lc_model.specs.State.{Place, At, Travelling, Phase, Up, DownAt, State, running_of, has_unclosed, is_held, is_locked}
use Rattle.lc_record.specs.Marks.{ranges, ascending, marked}
use Rattle.lc_model.specs.declared.event.Event.{Event}
use Rattle.lc_model.specs.declared.event.Event.TheVariants.{Begin, SetRange, Write, Read, Abort, Reserve, Close, FlushStep, Leave, Arrive, Deliver, Trim, PageStep, ResetStep, Stop, RecoverStep}
use Rattle.lc_model.specs.declared.refusal.Refusal.{Refusal}
use Rattle.lc_model.specs.declared.refusal.Refusal.TheVariants.{Down, Unknown, Halted, OutOfTurn, Busy, NotHere, NotLocked, ReadOnly, EmptyRange, OutOfSegment, NoRange, TooManyRanges, Held}
use Rattle.lc_model.specs.declared.reply.Reply.{Reply}
use Rattle.lc_model.specs.declared.reply.Reply.TheVariants.{Refused}

-- the first of several conditions that holds gives the refusal
abbrev pub refuse_if : Bool → Refusal → Option Refusal → Option Refusal
refuse_if true refusal next = Some refusal
refuse_if false refusal next = next

-- where there is a refusal, it is answered and nothing changes; else what follows holds
abbrev pub Unless : Option Refusal → State → Reply → State → Type 0 → Type 0
Unless (Some refusal) old reply new otherwise = (reply ≡ Refused refusal) × (new ≡ old)
Unless None old reply new otherwise = otherwise

-- of the thread's open transaction; without one it is out of turn
abbrev pub OfRunning : Option Transaction → State → Reply → State → (Transaction → Type 0) → Type 0
OfRunning None old reply new next = (reply ≡ Refused OutOfTurn) × (new ≡ old)
OfRunning (Some t) old reply new next = next t

-- Refusals that come before those of an event's own row

-- the store is up
abbrev pub is_up : Phase → Bool
is_up Up = true
is_up (DownAt cut) = false

-- the token is at this node
abbrev pub is_at : ℕ → Place → Bool
is_at node (At other) = other == node
is_at node Travelling = false

-- the geometry has this node
abbrev pub is_node : Geometry → ℕ → Bool
is_node g node = nat_lt node g.nodes

-- each node has this thread
abbrev pub is_thread : Geometry → ℕ → Bool
is_thread g thread = nat_lt thread g.threads

-- the geometry has this segment
abbrev pub is_segment : Geometry → ℕ → Bool
is_segment g segment = nat_le 1 segment && nat_le segment g.segments

-- each segment has this page
abbrev pub is_page : Geometry → ℕ → Bool
is_page g page = nat_lt page g.pages

-- what an event names: the node that acts, other nodes, threads, segments and pages
pub record Named : Type 0 where
  pub node : ℕ
  pub others : List ℕ
  pub threads : List ℕ
  pub segments : List ℕ
  pub pages : List ℕ

-- by a node, a thread of it, and these segments
abbrev pub by_thread : ℕ → ℕ → List ℕ → Option Named
by_thread node thread segments =
    Some (record { node = node; others = []; threads = thread ∷ []; segments = segments; pages = [] })

-- by a node, with these segments and pages
abbrev pub by_node : ℕ → List ℕ → List ℕ → Option Named
by_node node segments pages =
    Some (record { node = node; others = []; threads = []; segments = segments; pages = pages })

-- of a delivery the receiver acts; an event of the whole store names nothing
abbrev pub named : Event → Option Named
named (Begin node thread segments reading) = by_thread node thread (segments ++ reading)
named (SetRange node thread segment offset len) = by_thread node thread (segment ∷ [])
named (Write node thread segment offset bytes) = by_thread node thread (segment ∷ [])
named (Read node thread segment offset len) = by_thread node thread (segment ∷ [])
named (Abort node thread) = by_thread node thread []
named (Reserve node thread) = by_thread node thread []
named (Close node thread) = by_thread node thread []
named (FlushStep node) = by_node node [] []
named (Leave node segment) = by_node node (segment ∷ []) []
named (Arrive node segment) = by_node node (segment ∷ []) []
named (Deliver sender number segment to) =
    Some (record { node = to; others = sender ∷ []; threads = []; segments = segment ∷ []; pages = [] })
named (Trim node) = by_node node [] []
named (PageStep node segment page) = by_node node (segment ∷ []) (page ∷ [])
named (ResetStep node) = by_node node [] []
named (Stop choices) = None
named RecoverStep = None

-- each of these numbers lies in the geometry
abbrev pub are_known : Geometry → Option Named → Bool
are_known g None = true
are_known g (Some n) =
    is_node g n.node && list_all (is_node g) n.others && list_all (is_thread g) n.threads
    && list_all (is_segment g) n.segments
    && list_all (is_page g) n.pages

-- all that the event names lies in the geometry
abbrev pub is_known : Geometry → Event → Bool
is_known g event = are_known g (named event)

-- the node that acts is halted
abbrev pub acts_halted : (ℕ → Bool) → Option Named → Bool
acts_halted halted None = false
acts_halted halted (Some n) = halted n.node

-- the node that the event acts at is halted
abbrev pub is_halted : (ℕ → Bool) → Event → Bool
is_halted halted event = acts_halted halted (named event)

-- the event is for a store that is down
abbrev pub works_down : Event → Bool
works_down event = not (is_some (named event))

-- the refusals that come before those of any row
abbrev pub common_refusal : Geometry → State → Event → Option Refusal
common_refusal g s event =
    refuse_if (not (is_up s.phase) && not (works_down event)) Down
    (refuse_if (not (is_known g event)) Unknown
    (refuse_if (is_halted s.halted event) Halted
    None))

-- Refusals of the rows

-- a lock is in the way: any lock, where the segment is among those asked for writing; else one for writing
abbrev pub is_busy : List ℕ → State → ℕ → Bool
is_busy writing s segment = if is_member segment writing then is_held segment s else is_locked segment s

-- at the first of these segments that is elsewhere or busy
abbrev pub first_taken : ℕ → State → List ℕ → List ℕ → Option Refusal
first_taken node s writing [] = None
first_taken node s writing (segment ∷ segments) =
    refuse_if (not (is_at node (s.place segment))) (NotHere segment)
    (refuse_if (is_busy writing s segment) (Busy segment)
    (first_taken node s writing segments))

-- of a begin
abbrev pub begin_refusal : Geometry → State → ℕ → ℕ → List ℕ → List ℕ → Option Refusal
begin_refusal g s node thread segments reading =
    refuse_if (is_some (running_of node thread s) || has_unclosed node thread s) OutOfTurn
    (first_taken node s segments (ascending g (segments ++ reading)))

-- of a range
abbrev pub set_range_refusal : Geometry → Transaction → ℕ → ℕ → ℕ → Option Refusal
set_range_refusal g t segment offset len =
    refuse_if (not (holds t segment)) NotLocked
    (refuse_if (not (locks t segment)) (ReadOnly segment)
    (refuse_if (len == 0) EmptyRange
    (refuse_if (not (nat_le (offset + len) (segment_len g))) (OutOfSegment None)
    (refuse_if (not (nat_le (ranges (marked t segment offset len).marks) 64)) TooManyRanges
    None))))

-- of a write
abbrev pub write_refusal : Geometry → Transaction → ℕ → ℕ → List ℕ → Option Refusal
write_refusal g t segment offset bytes =
    refuse_if (not (holds t segment)) NotLocked
    (refuse_if (not (locks t segment)) (ReadOnly segment)
    (refuse_if (not (nat_le (offset + length bytes) (segment_len g))) (OutOfSegment None)
    (refuse_if (not (all_set offset (length bytes) (segment_of segment t.marks))) NoRange
    None)))

-- of a read
abbrev pub read_refusal : Geometry → Transaction → ℕ → ℕ → ℕ → Option Refusal
read_refusal g t segment offset len =
    refuse_if (not (holds t segment)) NotLocked
    (refuse_if (not (nat_le (offset + len) (segment_len g))) (OutOfSegment None)
    None)

-- of a token that is to leave
abbrev pub leave_refusal : State → ℕ → ℕ → Option Refusal
leave_refusal s node segment =
    refuse_if (not (is_at node (s.place segment))) (NotHere segment)
    (refuse_if (is_held segment s) Held
    None)
