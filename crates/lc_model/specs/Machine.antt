-- The plain machine: which replies each event may get, and what it changes.
use Rattle.std.specs.Prelude.{◌≡◌, ℕ, ◌+◌, ◌<◌, Bool, true, false, not, ◌==◌, nat_lt, nat_le, ◌&&◌, ◌⊎◌, List, [], ◌∷◌, ◌++◌, map, take, drop, None, IsTrue, MatchBool, if◌then◌else◌}
use Rattle.lc_record.specs.Content.{Content, segment_of}
use Rattle.lc_record.specs.Transaction.{Transaction, writes_on}
use Rattle.lc_record.specs.declared.geometry.Geometry.{Geometry}
use Rattle.lc_model.specs.History.{History, Cut, kept, value, reserved, front}
use Rattle.lc_model.specs.State.{Place, At, Travelling, Phase, Up, DownAt, State, Setting, update, fresh, running_of, without, with_changed, is_unclosed, has_unclosed}
use Rattle.lc_record.specs.Marks.{is_empty, ascending, beside, no_marks, marked, written}
use Rattle.lc_model.specs.Stops.{MayCut}
use Rattle.lc_model.specs.Refusals.{refuse_if, Unless, OfRunning, common_refusal, begin_refusal, set_range_refusal, write_refusal, read_refusal, leave_refusal}
use Rattle.lc_model.specs.declared.event.Event.{Event}
use Rattle.lc_model.specs.declared.event.Event.TheVariants.{Begin, SetRange, Write, Read, Abort, Reserve, Close, FlushStep, Leave, Arrive, Deliver, Trim, PageStep, ResetStep, Stop, RecoverStep}
use Rattle.lc_model.specs.declared.refusal.Refusal.{Refusal}
use Rattle.lc_model.specs.declared.refusal.Refusal.TheVariants.{Unknown, OutOfTurn, SequenceSpent, TooLong, Sealed, Full, NotHere, Writing, Unflushed, Behind, Uncommitted, NotNewer, Unclean, RoundsSpent, DeviceFault}
use Rattle.lc_model.specs.declared.reply.Reply.{Reply}
use Rattle.lc_model.specs.declared.reply.Reply.TheVariants.{Ok as Accepted, Bytes, Reserved, Ended, Stepped, Acked, Nothing, Applied, HeldBack, Ignored, Trimmed, Written, Reset, Down, Recovered, Refused}

-- What the events make of a state

-- the thread has an open transaction on these segments, with nothing set
abbrev pub begun : Geometry → State → ℕ → ℕ → List ℕ → List ℕ → State
begun g s node thread segments reading = record s {
  running = record {
    node = node;
    thread = thread;
    locked = ascending g segments;
    reading = ascending g (beside segments reading);
    marks = no_marks g;
    writes = [];
  } ∷ s.running;
}

-- the open transaction is now this
abbrev pub changed : State → Transaction → State
changed s t = record s { running = with_changed t s.running }

-- the thread's open transaction is dropped
abbrev pub dropped : State → ℕ → ℕ → State
dropped s node thread = record s { running = without node thread s.running }

-- it is no longer open, and stands last in the history
abbrev pub appended : State → Transaction → State
appended s t = record s {
  running = without t.node t.thread s.running;
  history = s.history ++ record { transaction = t; closed = false } ∷ [];
}

-- the thread's reservation is closed
abbrev pub closed_by : ℕ → ℕ → History → History
closed_by node thread history =
    map (λ e. if is_unclosed node thread e then record e { closed = true } else e) history

-- the node's flush has come so far
abbrev pub flushed_to : State → ℕ → ℕ → ℕ → State
flushed_to s node steps taken =
    record s { flush = update s.flush node (record { steps = steps; taken = taken }) }

-- the node is halted
abbrev pub halting : State → ℕ → State
halting s node = record s { halted = update s.halted node true }

-- the node's flush is over, and what it took is acknowledged
abbrev pub acknowledged : State → ℕ → ℕ → State
acknowledged s node count = record s {
  ack = update s.ack node count;
  flush = update s.flush node (record { steps = 0; taken = count });
}

-- the token of the segment is here
abbrev pub placed : State → ℕ → Place → State
placed s segment place = record s { place = update s.place segment place }

-- the content that an open transaction sees: that of the history, with its own writes on top
abbrev pub seen : Content → State → Transaction → Content
seen start s t = writes_on t.writes (value start s.earlier s.history)

-- Rows with a choice

-- refused with one of these, and nothing changes
abbrev pub MayRefuse : (Refusal → Bool) → State → Reply → State → Type 0
MayRefuse may old reply new =
    (refusal : Refusal) × IsTrue (may refusal) × (reply ≡ Refused refusal) × (new ≡ old)

-- why a reservation may be refused
abbrev pub may_refuse_reserve : Refusal → Bool
may_refuse_reserve (SequenceSpent segment) = true
may_refuse_reserve (TooLong words) = true
may_refuse_reserve Sealed = true
may_refuse_reserve (Full tail need) = true
may_refuse_reserve _ = false

-- nothing set: it is over; else it is reserved, or refused
abbrev pub ReserveRow : State → Transaction → Reply → State → Type 0
ReserveRow old t reply new =
    MatchBool (is_empty t.marks)
    ((reply ≡ Ended) × (new ≡ dropped old t.node t.thread))
    (((place : ℕ) × (words : ℕ) × (reply ≡ Reserved place words) × (new ≡ appended old t))
    ⊎ MayRefuse may_refuse_reserve old reply new)

-- the call is made; a fault in its place counts as it, and halts the node
abbrev pub Moves : State → ℕ → ℕ → ℕ → Reply → State → Type 0
Moves old node steps taken reply new =
    ((reply ≡ Stepped steps) × (new ≡ flushed_to old node steps taken))
    ⊎ ((reply ≡ Refused DeviceFault) × (new ≡ halting (flushed_to old node steps taken) node))

-- by the steps that are done and the number that was taken
abbrev pub FlushRow : State → ℕ → ℕ → ℕ → Reply → State → Type 0
FlushRow old node steps taken reply new =
    MatchBool (steps == 0)
    (MatchBool (front node old.history == old.ack node)
    ((reply ≡ Nothing) × (new ≡ old))
    (Moves old node 1 (front node old.history) reply new))
    (MatchBool (nat_lt steps 3)
    (Moves old node (steps + 1) taken reply new)
    (((reply ≡ Acked taken) × (new ≡ acknowledged old node taken))
    ⊎ ((reply ≡ Refused DeviceFault) × (new ≡ halting (flushed_to old node 4 taken) node))))

-- a token leaves only where all that the node reserved is acknowledged
abbrev pub LeaveRow : State → ℕ → ℕ → Reply → State → Type 0
LeaveRow old node segment reply new =
    ((reply ≡ Accepted) × (old.ack node ≡ reserved node old.history) × (new ≡ placed old segment Travelling))
    ⊎ ((reply ≡ Refused Unflushed) × (old.ack node < reserved node old.history) × (new ≡ old))
    ⊎ ((reply ≡ Refused Writing) × (new ≡ old))

-- a travelling token arrives, or may be refused as `Behind`; one that is at a node is out of turn
abbrev pub ArriveRow : Place → State → ℕ → ℕ → Reply → State → Type 0
ArriveRow (At other) old node segment reply new = (reply ≡ Refused OutOfTurn) × (new ≡ old)
ArriveRow Travelling old node segment reply new =
    ((reply ≡ Accepted) × (new ≡ placed old segment (At node)))
    ⊎ ((applied : ℕ) × (seq : ℕ) × (reply ≡ Refused (Behind applied seq)) × (new ≡ old))

-- the answers of a delivery and of a trim, which change nothing here
abbrev pub may_deliver : Reply → Bool
may_deliver (Applied count) = true
may_deliver HeldBack = true
may_deliver Ignored = true
may_deliver (Refused Unknown) = true
may_deliver _ = false

-- what a trim may be answered
abbrev pub may_trim : Reply → Bool
may_trim (Trimmed count) = true
may_trim _ = false

-- one of these answers, and nothing changes
abbrev pub Outside : (Reply → Bool) → State → Reply → State → Type 0
Outside may old reply new = IsTrue (may reply) × (new ≡ old)

-- what a step of a page write may be answered
abbrev pub may_page : Reply → Bool
may_page (Stepped steps) = nat_le 1 steps && nat_le steps 5
may_page (Written number) = true
may_page (Refused (NotHere segment)) = true
may_page (Refused Uncommitted) = true
may_page (Refused Unflushed) = true
may_page (Refused NotNewer) = true
may_page _ = false

-- what a step of a reset may be answered
abbrev pub may_reset : Reply → Bool
may_reset (Stepped steps) = nat_le 1 steps && nat_le steps 3
may_reset Reset = true
may_reset Nothing = true
may_reset (Refused Unflushed) = true
may_reset (Refused (Unclean segment seq)) = true
may_reset (Refused RoundsSpent) = true
may_reset _ = false

-- the same, or a fault, which halts the node
abbrev pub OrHalts : (Reply → Bool) → State → ℕ → Reply → State → Type 0
OrHalts may old node reply new =
    Outside may old reply new ⊎ ((reply ≡ Refused DeviceFault) × (new ≡ halting old node))

-- down at some cut that may be; a store that is down stays so
abbrev pub StopRow : Phase → Geometry → State → Reply → State → Type 0
StopRow Up g old reply new =
    (cut : Cut) × MayCut g old cut × (reply ≡ Down) × (new ≡ record old { phase = DownAt cut })
StopRow (DownAt cut) g old reply new = (reply ≡ Down) × (new ≡ old)

-- up again, with what the cut kept; until then nothing changes
abbrev pub RecoverRow : Phase → Geometry → State → Reply → State → Type 0
RecoverRow Up g old reply new = (reply ≡ Refused OutOfTurn) × (new ≡ old)
RecoverRow (DownAt cut) g old reply new =
    ((steps : ℕ) × (reply ≡ Stepped steps) × (new ≡ old))
    ⊎ ((reply ≡ Refused DeviceFault) × (new ≡ old))
    ⊎ ((reply ≡ Recovered) × (new ≡ fresh g (old.earlier ++ kept old.history cut) Up))

-- The rows

-- an event's own answers, after the refusals that are common to all
abbrev pub Row : Setting → State → Event → Reply → State → Type 0
Row m old (Begin node thread segments reading) reply new =
    Unless (begin_refusal m.geometry old node thread segments reading) old reply new
    ((reply ≡ Accepted) × (new ≡ begun m.geometry old node thread segments reading))
Row m old (SetRange node thread segment offset len) reply new =
    OfRunning (running_of node thread old) old reply new (λ t.
    Unless (set_range_refusal m.geometry t segment offset len) old reply new
    ((reply ≡ Accepted) × (new ≡ changed old (marked t segment offset len))))
Row m old (Write node thread segment offset bytes) reply new =
    OfRunning (running_of node thread old) old reply new (λ t.
    Unless (write_refusal m.geometry t segment offset bytes) old reply new
    ((reply ≡ Accepted) × (new ≡ changed old (written t segment offset bytes))))
Row m old (Read node thread segment offset len) reply new =
    OfRunning (running_of node thread old) old reply new (λ t.
    Unless (read_refusal m.geometry t segment offset len) old reply new
    ((reply ≡ Bytes (take len (drop offset (segment_of segment (seen m.start old t))))) × (new ≡ old)))
Row m old (Abort node thread) reply new =
    OfRunning (running_of node thread old) old reply new
    (λ t. (reply ≡ Accepted) × (new ≡ dropped old node thread))
Row m old (Reserve node thread) reply new =
    OfRunning (running_of node thread old) old reply new (λ t. ReserveRow old t reply new)
Row m old (Close node thread) reply new =
    Unless (refuse_if (not (has_unclosed node thread old)) OutOfTurn None) old reply new
    ((reply ≡ Accepted) × (new ≡ record old { history = closed_by node thread old.history }))
Row m old (FlushStep node) reply new =
    FlushRow old node (old.flush node).steps (old.flush node).taken reply new
Row m old (Leave node segment) reply new =
    Unless (leave_refusal old node segment) old reply new (LeaveRow old node segment reply new)
Row m old (Arrive node segment) reply new = ArriveRow (old.place segment) old node segment reply new
Row m old (Deliver sender number segment to) reply new = Outside may_deliver old reply new
Row m old (Trim node) reply new = Outside may_trim old reply new
Row m old (PageStep node segment page) reply new = OrHalts may_page old node reply new
Row m old (ResetStep node) reply new = OrHalts may_reset old node reply new
Row m old (Stop choices) reply new = StopRow old.phase m.geometry old reply new
Row m old RecoverStep reply new = RecoverRow old.phase m.geometry old reply new

-- from old, the machine may give this reply to the event and go on to new
abbrev pub Step : Setting → State → Event → Reply → State → Type 0
Step m old event reply new =
    Unless (common_refusal m.geometry old event) old reply new (Row m old event reply new)

-- the machine may give these replies to these events, one step after another
abbrev pub Run : Setting → State → List Event → List Reply → State → Type 0
Run m old [] [] new = new ≡ old
Run m old (event ∷ events) (reply ∷ replies) new =
    (mid : State) × Step m old event reply mid × Run m mid events replies new
Run m old [] (reply ∷ replies) new = ⊥
Run m old (event ∷ events) [] new = ⊥
