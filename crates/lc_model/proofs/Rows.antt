-- The machine's rows, one lemma for each answer: from what holds of the state, the row holds.
use Rattle.std.proofs.Common.{◌≡◌, ◌≢◌, ℕ, ◌+◌, ◌<◌, ◌≤◌, ◌++◌, Bool, true, false, length, List, take, drop, nat_le, Some, None, not, ◌&&◌, ◌||◌, ◌==◌, is_some, ltb-true, refl, inl, inr, eq-eqb, ne_eqb, le-ltb, arith}
use Rattle.std.specs.List.{list_all}
use Rattle.std.proofs.lemmas.Bool.{and_parts as and-both}
use Rattle.lc_record.specs.Content.{segment_of}
use Rattle.lc_record.specs.Transaction.{Transaction, locks, holds, all_set}
use Rattle.lc_record.specs.Geometry.{segment_len}
use Rattle.lc_record.specs.declared.geometry.Geometry.{Geometry}
use Rattle.lc_model.specs.History.{front, reserved}
use Rattle.lc_model.specs.State.{At, Travelling, Setting, State, running_of, has_unclosed, is_held}
use Rattle.lc_record.specs.Marks.{ranges, is_empty, ascending, marked, written}
use Rattle.lc_model.specs.Refusals.{refuse_if, common_refusal, is_known, are_known, by_thread, by_node, is_node, is_thread, is_segment, is_page, is_up, works_down, is_halted, is_at, first_taken, leave_refusal}
use Rattle.lc_model.specs.Machine.{Step, Row, FlushRow, begun, changed, dropped, appended, closed_by, flushed_to, halting, acknowledged, placed, seen, may_refuse_reserve}
use Rattle.lc_model.specs.declared.event.Event.{Event}
use Rattle.lc_model.specs.declared.event.Event.TheVariants.{Begin, SetRange, Write, Read, Abort, Reserve, Close, Leave, Arrive}
use Rattle.lc_model.specs.declared.reply.Reply.{Reply}
use Rattle.lc_model.specs.declared.reply.Reply.TheVariants.{Ok as Accepted, Bytes, Reserved, Ended, Acked, Nothing, Refused}
use Rattle.lc_model.specs.declared.refusal.Refusal.{Refusal}
use Rattle.lc_model.specs.declared.refusal.Refusal.TheVariants.{Down, Unknown, Halted, OutOfTurn, NotHere, NotLocked, ReadOnly, EmptyRange, OutOfSegment, NoRange, TooManyRanges, Held, Writing, Unflushed, Behind, DeviceFault}

-- Steps and their common refusals

-- where no common refusal comes first, the event's row is the step
pub step-row : (m : Setting) (s : State) (event : Event) (reply : Reply) (new : State) → common_refusal m.geometry s event ≡ None → Row m s event reply new → Step m s event reply new
step-row m s event reply new none row = rw none row

pub common-halted : (g : Geometry) (s : State) (event : Event) → is_up s.phase ≡ true → is_known g event ≡ true → is_halted s.halted event ≡ true → common_refusal g s event ≡ Some Halted
common-halted g s event up known halted = rw (up, known, halted) refl

pub common-none : (g : Geometry) (s : State) (event : Event) → is_up s.phase ≡ true → is_known g event ≡ true → is_halted s.halted event ≡ false → common_refusal g s event ≡ None
common-none g s event up known halted = rw (up, known, halted) refl

pub none_refused : (down known halted : Bool) → refuse_if down Down (refuse_if (not known) Unknown (refuse_if halted Halted None)) ≡ None → (down ≡ false) × (known ≡ true) × (halted ≡ false)
none_refused true known halted e = absurd cc
none_refused false true false e = (refl, refl, refl)
none_refused false true true e = absurd cc
none_refused false false halted e = absurd cc

-- an event that is not refused lies in the geometry, and is of no halted node
pub known : (g : Geometry) (s : State) (event : Event) → common_refusal g s event ≡ None → is_known g event ≡ true
known g s event none = (none_refused (not (is_up s.phase) && not (works_down event)) (is_known g event) (is_halted s.halted event) none).1

pub not_halted : (g : Geometry) (s : State) (event : Event) → common_refusal g s event ≡ None → is_halted s.halted event ≡ false
not_halted g s event none = (none_refused (not (is_up s.phase) && not (works_down event)) (is_known g event) (is_halted s.halted event) none).2

-- what an event of a thread names is known where its parts are
pub seat_known : (g : Geometry) (node thread : ℕ) (segments : List ℕ) → are_known g (by_thread node thread segments) ≡ true → (node < g.nodes) × (thread < g.threads) × (list_all (is_segment g) segments ≡ true)
seat_known g node thread segments h =
    let a = and-both (is_node g node && true && (is_thread g thread && true) && list_all (is_segment g) segments) true h in
    let b = and-both (is_node g node && true && (is_thread g thread && true)) (list_all (is_segment g) segments) a.0 in
    let c = and-both (is_node g node && true) (is_thread g thread && true) b.0 in
    (ltb-true node g.nodes (and-both (is_node g node) true c.0).0, ltb-true thread g.threads (and-both (is_thread g thread) true c.1).0, b.1)

pub node_known : (g : Geometry) (node : ℕ) (segments pages : List ℕ) → are_known g (by_node node segments pages) ≡ true → node < g.nodes
node_known g node segments pages h =
    let a = and-both (is_node g node && true && true && list_all (is_segment g) segments) (list_all (is_page g) pages) h in
    let b = and-both (is_node g node && true && true) (list_all (is_segment g) segments) a.0 in
    let c = and-both (is_node g node && true) true b.0 in
    ltb-true node g.nodes (and-both (is_node g node) true c.0).0

-- Begin

pub begin-no_turn : (m : Setting) (s : State) (node thread : ℕ) (segments reading : List ℕ) → (is_some (running_of node thread s) || has_unclosed node thread s) ≡ true → Row m s (Begin node thread segments reading) (Refused OutOfTurn) s
begin-no_turn m s node thread segments reading taken = rw taken (refl, refl)

pub begin-refused : (m : Setting) (s : State) (node thread : ℕ) (segments reading : List ℕ) (refusal : Refusal) → (is_some (running_of node thread s) || has_unclosed node thread s) ≡ false → first_taken node s segments (ascending m.geometry (segments ++ reading)) ≡ Some refusal → Row m s (Begin node thread segments reading) (Refused refusal) s
begin-refused m s node thread segments reading refusal turn taken = rw (turn, taken) (refl, refl)

pub begin-done : (m : Setting) (s : State) (node thread : ℕ) (segments reading : List ℕ) → (is_some (running_of node thread s) || has_unclosed node thread s) ≡ false → first_taken node s segments (ascending m.geometry (segments ++ reading)) ≡ None → Row m s (Begin node thread segments reading) Accepted (begun m.geometry s node thread segments reading)
begin-done m s node thread segments reading turn free = rw (turn, free) (refl, refl)

-- SetRange, of a thread's open transaction

pub set_range-no_turn : (m : Setting) (s : State) (node thread segment offset len : ℕ) → running_of node thread s ≡ None → Row m s (SetRange node thread segment offset len) (Refused OutOfTurn) s
set_range-no_turn m s node thread segment offset len none = rw none (refl, refl)

pub set_range-not_locked : (m : Setting) (s : State) (node thread segment offset len : ℕ) (t : Transaction) → running_of node thread s ≡ Some t → holds t segment ≡ false → Row m s (SetRange node thread segment offset len) (Refused NotLocked) s
set_range-not_locked m s node thread segment offset len t running a = rw (running, a) (refl, refl)

pub set_range-read_only : (m : Setting) (s : State) (node thread segment offset len : ℕ) (t : Transaction) → running_of node thread s ≡ Some t → holds t segment ≡ true → locks t segment ≡ false → Row m s (SetRange node thread segment offset len) (Refused (ReadOnly segment)) s
set_range-read_only m s node thread segment offset len t running held a = rw (running, held, a) (refl, refl)

pub set_range-no_bytes : (m : Setting) (s : State) (node thread segment offset len : ℕ) (t : Transaction) → running_of node thread s ≡ Some t → locks t segment ≡ true → (len == 0) ≡ true → Row m s (SetRange node thread segment offset len) (Refused EmptyRange) s
set_range-no_bytes m s node thread segment offset len t running a b = rw (running, a, b) (refl, refl)

pub set_range-outside : (m : Setting) (s : State) (node thread segment offset len : ℕ) (t : Transaction) → running_of node thread s ≡ Some t → locks t segment ≡ true → (len == 0) ≡ false → nat_le (offset + len) (segment_len m.geometry) ≡ false → Row m s (SetRange node thread segment offset len) (Refused (OutOfSegment None)) s
set_range-outside m s node thread segment offset len t running a b e = rw (running, a, b, e) (refl, refl)

pub set_range-too_many : (m : Setting) (s : State) (node thread segment offset len : ℕ) (t : Transaction) → running_of node thread s ≡ Some t → locks t segment ≡ true → (len == 0) ≡ false → nat_le (offset + len) (segment_len m.geometry) ≡ true → nat_le (ranges (marked t segment offset len).marks) 64 ≡ false → Row m s (SetRange node thread segment offset len) (Refused TooManyRanges) s
set_range-too_many m s node thread segment offset len t running a b e f = rw (running, a, b, e, f) (refl, refl)

pub set_range-done : (m : Setting) (s : State) (node thread segment offset len : ℕ) (t : Transaction) → running_of node thread s ≡ Some t → locks t segment ≡ true → (len == 0) ≡ false → nat_le (offset + len) (segment_len m.geometry) ≡ true → nat_le (ranges (marked t segment offset len).marks) 64 ≡ true → Row m s (SetRange node thread segment offset len) Accepted (changed s (marked t segment offset len))
set_range-done m s node thread segment offset len t running a b e f = rw (running, a, b, e, f) (refl, refl)

-- Write, of a thread's open transaction

pub write-no_turn : (m : Setting) (s : State) (node thread segment offset : ℕ) (bytes : List ℕ) → running_of node thread s ≡ None → Row m s (Write node thread segment offset bytes) (Refused OutOfTurn) s
write-no_turn m s node thread segment offset bytes none = rw none (refl, refl)

pub write-not_locked : (m : Setting) (s : State) (node thread segment offset : ℕ) (bytes : List ℕ) (t : Transaction) → running_of node thread s ≡ Some t → holds t segment ≡ false → Row m s (Write node thread segment offset bytes) (Refused NotLocked) s
write-not_locked m s node thread segment offset bytes t running a = rw (running, a) (refl, refl)

pub write-read_only : (m : Setting) (s : State) (node thread segment offset : ℕ) (bytes : List ℕ) (t : Transaction) → running_of node thread s ≡ Some t → holds t segment ≡ true → locks t segment ≡ false → Row m s (Write node thread segment offset bytes) (Refused (ReadOnly segment)) s
write-read_only m s node thread segment offset bytes t running held a = rw (running, held, a) (refl, refl)

pub write-outside : (m : Setting) (s : State) (node thread segment offset : ℕ) (bytes : List ℕ) (t : Transaction) → running_of node thread s ≡ Some t → locks t segment ≡ true → nat_le (offset + length bytes) (segment_len m.geometry) ≡ false → Row m s (Write node thread segment offset bytes) (Refused (OutOfSegment None)) s
write-outside m s node thread segment offset bytes t running a b = rw (running, a, b) (refl, refl)

pub write-no_range : (m : Setting) (s : State) (node thread segment offset : ℕ) (bytes : List ℕ) (t : Transaction) → running_of node thread s ≡ Some t → locks t segment ≡ true → nat_le (offset + length bytes) (segment_len m.geometry) ≡ true → all_set offset (length bytes) (segment_of segment t.marks) ≡ false → Row m s (Write node thread segment offset bytes) (Refused NoRange) s
write-no_range m s node thread segment offset bytes t running a b e = rw (running, a, b, e) (refl, refl)

pub write-done : (m : Setting) (s : State) (node thread segment offset : ℕ) (bytes : List ℕ) (t : Transaction) → running_of node thread s ≡ Some t → locks t segment ≡ true → nat_le (offset + length bytes) (segment_len m.geometry) ≡ true → all_set offset (length bytes) (segment_of segment t.marks) ≡ true → Row m s (Write node thread segment offset bytes) Accepted (changed s (written t segment offset bytes))
write-done m s node thread segment offset bytes t running a b e = rw (running, a, b, e) (refl, refl)

-- Read, of a thread's open transaction

pub read-no_turn : (m : Setting) (s : State) (node thread segment offset len : ℕ) → running_of node thread s ≡ None → Row m s (Read node thread segment offset len) (Refused OutOfTurn) s
read-no_turn m s node thread segment offset len none = rw none (refl, refl)

pub read-not_locked : (m : Setting) (s : State) (node thread segment offset len : ℕ) (t : Transaction) → running_of node thread s ≡ Some t → holds t segment ≡ false → Row m s (Read node thread segment offset len) (Refused NotLocked) s
read-not_locked m s node thread segment offset len t running a = rw (running, a) (refl, refl)

pub read-outside : (m : Setting) (s : State) (node thread segment offset len : ℕ) (t : Transaction) → running_of node thread s ≡ Some t → holds t segment ≡ true → nat_le (offset + len) (segment_len m.geometry) ≡ false → Row m s (Read node thread segment offset len) (Refused (OutOfSegment None)) s
read-outside m s node thread segment offset len t running a b = rw (running, a, b) (refl, refl)

pub read-done : (m : Setting) (s : State) (node thread segment offset len : ℕ) (t : Transaction) (bytes : List ℕ) → running_of node thread s ≡ Some t → holds t segment ≡ true → nat_le (offset + len) (segment_len m.geometry) ≡ true → bytes ≡ take len (drop offset (segment_of segment (seen m.start s t))) → Row m s (Read node thread segment offset len) (Bytes bytes) s
read-done m s node thread segment offset len t bytes running a b same = rw (running, a, b, same) (refl, refl)

-- Abort, Reserve and Close

pub abort-no_turn : (m : Setting) (s : State) (node thread : ℕ) → running_of node thread s ≡ None → Row m s (Abort node thread) (Refused OutOfTurn) s
abort-no_turn m s node thread none = rw none (refl, refl)

pub abort-done : (m : Setting) (s : State) (node thread : ℕ) (t : Transaction) → running_of node thread s ≡ Some t → Row m s (Abort node thread) Accepted (dropped s node thread)
abort-done m s node thread t running = rw running (refl, refl)

pub reserve-no_turn : (m : Setting) (s : State) (node thread : ℕ) → running_of node thread s ≡ None → Row m s (Reserve node thread) (Refused OutOfTurn) s
reserve-no_turn m s node thread none = rw none (refl, refl)

pub reserve-ended : (m : Setting) (s : State) (node thread : ℕ) (t : Transaction) → running_of node thread s ≡ Some t → is_empty t.marks ≡ true → Row m s (Reserve node thread) Ended (dropped s t.node t.thread)
reserve-ended m s node thread t running nothing = rw (running, nothing) (refl, refl)

pub reserve-done : (m : Setting) (s : State) (node thread : ℕ) (t : Transaction) (place words : ℕ) → running_of node thread s ≡ Some t → is_empty t.marks ≡ false → Row m s (Reserve node thread) (Reserved place words) (appended s t)
reserve-done m s node thread t place words running some = rw (running, some) (inl (place, words, refl, refl))

pub reserve-refused : (m : Setting) (s : State) (node thread : ℕ) (t : Transaction) (refusal : Refusal) → running_of node thread s ≡ Some t → is_empty t.marks ≡ false → may_refuse_reserve refusal ≡ true → Row m s (Reserve node thread) (Refused refusal) s
reserve-refused m s node thread t refusal running some may = rw (running, some) (inr (refusal, may, refl, refl))

pub close-no_turn : (m : Setting) (s : State) (node thread : ℕ) → has_unclosed node thread s ≡ false → Row m s (Close node thread) (Refused OutOfTurn) s
close-no_turn m s node thread none = rw none (refl, refl)

pub close-done : (m : Setting) (s : State) (node thread : ℕ) → has_unclosed node thread s ≡ true → Row m s (Close node thread) Accepted (record s { history = closed_by node thread s.history })
close-done m s node thread some = rw some (refl, refl)

-- FlushStep, by the steps that are done

pub flush-nothing : (s : State) (node taken : ℕ) → front node s.history ≡ s.ack node → FlushRow s node 0 taken Nothing s
flush-nothing s node taken same = rw (eq-eqb (front node s.history) (s.ack node) same) (refl, refl)

pub flush-last : (s : State) (node steps taken : ℕ) → 3 ≤ steps → FlushRow s node steps taken (Acked taken) (acknowledged s node taken)
flush-last s node steps taken all =
    let some : steps ≢ 0 = omega arith in
    rw (ne_eqb steps 0 some, le-ltb steps 3 all) (inl (refl, refl))

pub flush-last_fault : (s : State) (node steps taken : ℕ) → 3 ≤ steps → FlushRow s node steps taken (Refused DeviceFault) (halting (flushed_to s node 4 taken) node)
flush-last_fault s node steps taken all =
    let some : steps ≢ 0 = omega arith in
    rw (ne_eqb steps 0 some, le-ltb steps 3 all) (inr (refl, refl))

-- Leave and Arrive

pub leave-refused : (m : Setting) (s : State) (node segment : ℕ) (refusal : Refusal) → leave_refusal s node segment ≡ Some refusal → Row m s (Leave node segment) (Refused refusal) s
leave-refused m s node segment refusal some = rw some (refl, refl)

pub leave-not_here : (s : State) (node segment : ℕ) → is_at node (s.place segment) ≡ false → leave_refusal s node segment ≡ Some (NotHere segment)
leave-not_here s node segment elsewhere = rw elsewhere refl

pub leave-held : (s : State) (node segment : ℕ) → is_at node (s.place segment) ≡ true → is_held segment s ≡ true → leave_refusal s node segment ≡ Some Held
leave-held s node segment here held = rw (here, held) refl

pub leave-free : (s : State) (node segment : ℕ) → is_at node (s.place segment) ≡ true → is_held segment s ≡ false → leave_refusal s node segment ≡ None
leave-free s node segment here free = rw (here, free) refl

pub leave-done : (m : Setting) (s : State) (node segment : ℕ) → leave_refusal s node segment ≡ None → s.ack node ≡ reserved node s.history → Row m s (Leave node segment) Accepted (placed s segment Travelling)
leave-done m s node segment free all = rw free (inl (refl, all, refl))

pub leave-unflushed : (m : Setting) (s : State) (node segment : ℕ) → leave_refusal s node segment ≡ None → s.ack node < reserved node s.history → Row m s (Leave node segment) (Refused Unflushed) s
leave-unflushed m s node segment free below = rw free (inr (inl (refl, below, refl)))

pub leave-writing : (m : Setting) (s : State) (node segment : ℕ) → leave_refusal s node segment ≡ None → Row m s (Leave node segment) (Refused Writing) s
leave-writing m s node segment free = rw free (inr (inr (refl, refl)))

pub arrive-no_turn : (m : Setting) (s : State) (node segment other : ℕ) → s.place segment ≡ At other → Row m s (Arrive node segment) (Refused OutOfTurn) s
arrive-no_turn m s node segment other at = rw at (refl, refl)

pub arrive-done : (m : Setting) (s : State) (node segment : ℕ) → s.place segment ≡ Travelling → Row m s (Arrive node segment) Accepted (placed s segment (At node))
arrive-done m s node segment travelling = rw travelling (inl (refl, refl))

pub arrive-behind : (m : Setting) (s : State) (node segment applied seq : ℕ) → s.place segment ≡ Travelling → Row m s (Arrive node segment) (Refused (Behind applied seq)) s
arrive-behind m s node segment applied seq travelling = rw travelling (inr (applied, seq, refl, refl))
