-- How many answers each row allows.
use Rattle.std.proofs.Common.{◌≡◌, ◌≢◌, ◌⊎◌, ℕ, ◌+◌, ◌<◌, ◌≤◌, Bool, true, false, take, drop, Option, Some, None, not, ◌&&◌, ◌==◌, nat_lt, IsTrue, refl, sym, ◌∙◌, ap, inl, inr, arith}
use Rattle.std.specs.Prelude.{MatchBool}
use Rattle.std.proofs.lemmas.Bool.{cases_lt}
use Rattle.lc_record.specs.Content.{segment_of}
use Rattle.lc_record.specs.Transaction.{Transaction}
use Rattle.lc_model.specs.History.{Cut, front, reserved}
use Rattle.lc_model.specs.State.{Place, At, Travelling, Phase, Up, DownAt, Setting, State, running_of, has_unclosed, is_held}
use Rattle.lc_record.specs.Marks.{is_empty, marked, written}
use Rattle.lc_model.specs.Refusals.{refuse_if, Unless, OfRunning, common_refusal, is_known, is_up, works_down, is_halted, is_at, begin_refusal, set_range_refusal, write_refusal, read_refusal, leave_refusal}
use Rattle.lc_model.specs.Machine.{Step, Row, StopRow, FlushRow, Moves, ReserveRow, LeaveRow, ArriveRow, RecoverRow, begun, changed, dropped, closed_by, flushed_to, halting, acknowledged, placed, seen}
use Rattle.lc_model.specs.Sound.{Sound}
use Rattle.lc_model.proofs.EveryCut.{may_cut}
use Rattle.std.proofs.Common.{zero, suc, List, [], ◌∷◌, length, slice_index}
use Rattle.lc_model.specs.Choices.{AtLeastOne, ExactlyOne, Beside, leaves_no_choice}
use Rattle.lc_disk.specs.declared.choice.Choice.{Choice}
use Rattle.lc_model.specs.declared.event.Event.{Event}
use Rattle.lc_model.specs.declared.event.Event.TheVariants.{Begin, SetRange, Write, Read, Abort, Reserve, Close, FlushStep, Leave, Arrive, Deliver, Trim, PageStep, ResetStep, Stop, RecoverStep}
use Rattle.lc_model.specs.declared.reply.Reply.{Reply}
use Rattle.lc_model.specs.declared.reply.Reply.TheVariants.{Ok as Accepted, Bytes, Reserved, Recovered, Ended, Stepped, Acked, Nothing, HeldBack, Trimmed, Down as Stopped, Refused}
use Rattle.lc_model.specs.declared.refusal.Refusal.{Refusal}
use Rattle.lc_model.specs.declared.refusal.Refusal.TheVariants.{Down, Unknown, Halted, OutOfTurn, NotHere, Held, Sealed, Writing, Unflushed, DeviceFault}

-- Answers that are given

abbrev pub Only : Reply → State → Reply → State → Type 0
Only answer after reply new = (reply ≡ answer) × (new ≡ after)

pub one-only : (answer : Reply) (after : State) → ExactlyOne (Only answer after)
one-only answer after = ((answer, after, (refl, refl)), λ r q a b first second. (first.0 ∙ sym second.0, first.1 ∙ sym second.1))

pub one-unless : (refusal : Option Refusal) (old : State) (May : Reply → State → Type 0) → ExactlyOne May → ExactlyOne (λ reply new. Unless refusal old reply new (May reply new))
one-unless None old May one = one
one-unless (Some refusal) old May one = one-only (Refused refusal) old

pub one-running : (running : Option Transaction) (old : State) (May : Transaction → Reply → State → Type 0) → ((t : Transaction) → ExactlyOne (May t)) → ExactlyOne (λ reply new. OfRunning running old reply new (λ t. May t reply new))
one-running None old May one = one-only (Refused OutOfTurn) old
one-running (Some t) old May one = one t

one-row : (m : Setting) (s : State) (event : Event) → leaves_no_choice event ≡ true → ExactlyOne (Row m s event)
one-row m s (Begin node thread segments reading) fixed =
    one-unless (begin_refusal m.geometry s node thread segments reading) s (Only Accepted (begun m.geometry s node thread segments reading))
    (one-only Accepted (begun m.geometry s node thread segments reading))
one-row m s (SetRange node thread segment offset len) fixed =
    one-running (running_of node thread s) s
    (λ t reply new. Unless (set_range_refusal m.geometry t segment offset len) s reply new (Only Accepted (changed s (marked t segment offset len)) reply new))
    (λ t. one-unless (set_range_refusal m.geometry t segment offset len) s (Only Accepted (changed s (marked t segment offset len)))
    (one-only Accepted (changed s (marked t segment offset len))))
one-row m s (Write node thread segment offset bytes) fixed =
    one-running (running_of node thread s) s
    (λ t reply new. Unless (write_refusal m.geometry t segment offset bytes) s reply new (Only Accepted (changed s (written t segment offset bytes)) reply new))
    (λ t. one-unless (write_refusal m.geometry t segment offset bytes) s (Only Accepted (changed s (written t segment offset bytes)))
    (one-only Accepted (changed s (written t segment offset bytes))))
one-row m s (Read node thread segment offset len) fixed =
    one-running (running_of node thread s) s
    (λ t reply new. Unless (read_refusal m.geometry t segment offset len) s reply new (Only (Bytes (take len (drop offset (segment_of segment (seen m.start s t))))) s reply new))
    (λ t. one-unless (read_refusal m.geometry t segment offset len) s (Only (Bytes (take len (drop offset (segment_of segment (seen m.start s t))))) s)
    (one-only (Bytes (take len (drop offset (segment_of segment (seen m.start s t))))) s))
one-row m s (Abort node thread) fixed =
    one-running (running_of node thread s) s (λ t. Only Accepted (dropped s node thread)) (λ t. one-only Accepted (dropped s node thread))
one-row m s (Close node thread) fixed =
    let closed : State = record s { history = closed_by node thread s.history } in
    one-unless (refuse_if (not (has_unclosed node thread s)) OutOfTurn None) s (Only Accepted closed) (one-only Accepted closed)
one-row m s (Reserve node thread) fixed = absurd cc
one-row m s (FlushStep node) fixed = absurd cc
one-row m s (Leave node segment) fixed = absurd cc
one-row m s (Arrive node segment) fixed = absurd cc
one-row m s (Deliver sender number segment to) fixed = absurd cc
one-row m s (Trim node) fixed = absurd cc
one-row m s (PageStep node segment page) fixed = absurd cc
one-row m s (ResetStep node) fixed = absurd cc
one-row m s (Stop choices) fixed = absurd cc
one-row m s RecoverStep fixed = absurd cc

pub one_answer : (m : Setting) (s : State) (event : Event) → IsTrue (leaves_no_choice event) → ExactlyOne (Step m s event)
one_answer m s event fixed = one-unless (common_refusal m.geometry s event) s (Row m s event) (one-row m s event fixed)

-- Answers beside one reply

pub beside-only : (excluded answer : Reply) (after : State) → answer ≢ excluded → ExactlyOne (Beside excluded (Only answer after))
beside-only excluded answer after differ =
    ((answer, after, ((refl, refl), differ)), λ r q a b first second. (first.0.0 ∙ sym second.0.0, first.0.1 ∙ sym second.0.1))

pub beside-refuse_if : (excluded : Reply) (test : Bool) (refusal : Refusal) (others : Option Refusal) (old : State) (May : Reply → State → Type 0) → Refused refusal ≢ excluded → ExactlyOne (Beside excluded (λ reply new. Unless others old reply new (May reply new))) → ExactlyOne (Beside excluded (λ reply new. Unless (refuse_if test refusal others) old reply new (May reply new)))
beside-refuse_if excluded true refusal others old May differ one = beside-only excluded (Refused refusal) old differ
beside-refuse_if excluded false refusal others old May differ one = one

-- after the common refusals
beside-step : (excluded : Refusal) (m : Setting) (s : State) (event : Event) → Down ≢ excluded → Unknown ≢ excluded → Halted ≢ excluded → ExactlyOne (Beside (Refused excluded) (Row m s event)) → ExactlyOne (Beside (Refused excluded) (Step m s event))
beside-step excluded m s event a b c one =
    beside-refuse_if (Refused excluded) (not (is_up s.phase) && not (works_down event)) Down _ s (Row m s event) (λ e. a (cc))
    (beside-refuse_if (Refused excluded) (not (is_known m.geometry event)) Unknown _ s (Row m s event) (λ e. b (cc))
    (beside-refuse_if (Refused excluded) (is_halted s.halted event) Halted None s (Row m s event) (λ e. c (cc)) one))

-- two choices, of which one is excluded
beside-or : (excluded answer : Reply) (after : State) (other : State) → answer ≢ excluded → ExactlyOne (Beside excluded (λ reply new. Only answer after reply new ⊎ Only excluded other reply new))
beside-or excluded answer after other differ = (
  (answer, after, (inl (refl, refl), differ)),
  λ r q a b first second. elim first.0 [
    | inl one ↦ elim second.0 [ inl two ↦ (one.0 ∙ sym two.0, one.1 ∙ sym two.1) | inr two ↦ absurd (second.1 two.0) ]
    | inr one ↦ absurd (first.1 one.0)
  ],
)

beside-match : (excluded : Reply) (test : Bool) (May Might : Reply → State → Type 0) → ExactlyOne (Beside excluded May) → ExactlyOne (Beside excluded Might) → ExactlyOne (Beside excluded (λ reply new. MatchBool test (May reply new) (Might reply new)))
beside-match excluded true May Might one two = one
beside-match excluded false May Might one two = two

beside-moves : (old : State) (node steps taken : ℕ) → ExactlyOne (Beside (Refused DeviceFault) (Moves old node steps taken))
beside-moves old node steps taken =
    beside-or (Refused DeviceFault) (Stepped steps) (flushed_to old node steps taken) (halting (flushed_to old node steps taken) node) (λ e. cc)

beside-flush : (old : State) (node steps taken : ℕ) → ExactlyOne (Beside (Refused DeviceFault) (FlushRow old node steps taken))
beside-flush old node steps taken =
    beside-match (Refused DeviceFault) (steps == 0)
    (λ reply new. MatchBool (front node old.history == old.ack node) (Only Nothing old reply new) (Moves old node 1 (front node old.history) reply new))
    (λ reply new. MatchBool (nat_lt steps 3) (Moves old node (steps + 1) taken reply new)
    (Only (Acked taken) (acknowledged old node taken) reply new ⊎ Only (Refused DeviceFault) (halting (flushed_to old node 4 taken) node) reply new))
    (beside-match (Refused DeviceFault) (front node old.history == old.ack node) (Only Nothing old) (Moves old node 1 (front node old.history))
    (beside-only (Refused DeviceFault) Nothing old (λ e. cc)) (beside-moves old node 1 (front node old.history)))
    (beside-match (Refused DeviceFault) (nat_lt steps 3) (Moves old node (steps + 1) taken)
    (λ reply new. Only (Acked taken) (acknowledged old node taken) reply new ⊎ Only (Refused DeviceFault) (halting (flushed_to old node 4 taken) node) reply new)
    (beside-moves old node (steps + 1) taken)
    (beside-or (Refused DeviceFault) (Acked taken) (acknowledged old node taken) (halting (flushed_to old node 4 taken) node) (λ e. cc)))

pub flush_step-one : (m : Setting) (s : State) (node : ℕ) → ExactlyOne (Beside (Refused DeviceFault) (Step m s (FlushStep node)))
flush_step-one m s node =
    beside-step DeviceFault m s (FlushStep node) (λ e. cc) (λ e. cc) (λ e. cc) (beside-flush s node (s.flush node).steps (s.flush node).taken)

-- Leave

beside-leave : (s : State) (node segment : ℕ) → s.ack node ≤ reserved node s.history → ExactlyOne (Beside (Refused Writing) (LeaveRow s node segment))
beside-leave s node segment most = (
  elim (cases_lt (s.ack node) (reserved node s.history)) [
    | inl below ↦ (Refused Unflushed, s, (inr (inl (refl, below, refl)), λ e. cc))
    | inr above ↦ (Accepted, placed s segment Travelling, (inl (refl, (omega arith), refl), λ e. cc))
  ],
  λ r q a b first second. elim first.0 [
    | inl one ↦ elim second.0 [
      | inl two ↦ (one.0 ∙ sym two.0, one.2 ∙ sym two.2)
      | inr two ↦ elim two [ inl two ↦ absurd (omega (arith, one.1, two.1)) | inr two ↦ absurd (second.1 two.0) ]
    ]
    | inr one ↦ elim one [
      | inl one ↦ elim second.0 [
        | inl two ↦ absurd (omega (arith, one.1, two.1))
        | inr two ↦ elim two [ inl two ↦ (one.0 ∙ sym two.0, one.2 ∙ sym two.2) | inr two ↦ absurd (second.1 two.0) ]
      ]
      | inr one ↦ absurd (first.1 one.0)
    ]
  ],
)

pub leave-one : (m : Setting) (s : State) (node segment : ℕ) → s.ack node ≤ reserved node s.history → ExactlyOne (Beside (Refused Writing) (Step m s (Leave node segment)))
leave-one m s node segment most =
    beside-step Writing m s (Leave node segment) (λ e. cc) (λ e. cc) (λ e. cc)
    (beside-refuse_if (Refused Writing) (not (is_at node (s.place segment))) (NotHere segment) _ s (LeaveRow s node segment) (λ e. cc)
    (beside-refuse_if (Refused Writing) (is_held segment s) Held None s (LeaveRow s node segment) (λ e. cc)
    (beside-leave s node segment most)))

-- after refusals an answer that is none of them is one of the row
past-refuse_if : (test : Bool) (refusal : Refusal) (others : Option Refusal) (old : State) (reply : Reply) (new : State) (otherwise : Type 0) → reply ≢ Refused refusal → Unless (refuse_if test refusal others) old reply new otherwise → Unless others old reply new otherwise
past-refuse_if true refusal others old reply new otherwise differ h = absurd (differ h.0)
past-refuse_if false refusal others old reply new otherwise differ h = h

leave-row : (m : Setting) (s : State) (node segment : ℕ) (reply : Reply) (new : State) → reply ≢ Refused Down → reply ≢ Refused Unknown → reply ≢ Refused Halted → reply ≢ Refused (NotHere segment) → reply ≢ Refused Held → Step m s (Leave node segment) reply new → LeaveRow s node segment reply new
leave-row m s node segment reply new a b c d e step =
    past-refuse_if (is_held segment s) Held None s reply new _ e
    (past-refuse_if (not (is_at node (s.place segment))) (NotHere segment) _ s reply new _ d
    (past-refuse_if (is_halted s.halted (Leave node segment)) Halted None s reply new _ c
    (past-refuse_if (not (is_known m.geometry (Leave node segment))) Unknown _ s reply new _ b
    (past-refuse_if (not (is_up s.phase) && not (works_down (Leave node segment))) Down _ s reply new _ a step))))

pub leave-ok : (m : Setting) (s new : State) (node segment : ℕ) → Step m s (Leave node segment) Accepted new → s.ack node ≡ reserved node s.history
leave-ok m s new node segment step =
    elim (leave-row m s node segment Accepted new (λ e. cc) (λ e. cc) (λ e. cc) (λ e. cc) (λ e. cc) step) [
      | inl one ↦ one.1
      | inr one ↦ elim one [ inl one ↦ absurd (let e : Accepted ≡ Refused Unflushed = one.0 in cc) | inr one ↦ absurd (let e : Accepted ≡ Refused Writing = one.0 in cc) ]
    ]

pub leave-unflushed : (m : Setting) (s new : State) (node segment : ℕ) → Step m s (Leave node segment) (Refused Unflushed) new → s.ack node < reserved node s.history
leave-unflushed m s new node segment step =
    elim (leave-row m s node segment (Refused Unflushed) new (λ e. cc) (λ e. cc) (λ e. cc) (λ e. cc) (λ e. cc) step) [
      | inl one ↦ absurd (let e : Refused Unflushed ≡ Accepted = one.0 in cc)
      | inr one ↦ elim one [ inl one ↦ one.1 | inr one ↦ absurd (let e : Refused Unflushed ≡ Refused Writing = one.0 in cc) ]
    ]

-- Reserve, and some answer to every event

reserve-nothing-row : (m : Setting) (s : State) (node thread : ℕ) (running : Option Transaction) (t : Transaction) → running ≡ Some t → is_empty t.marks ≡ true → ExactlyOne (λ reply new. OfRunning running s reply new (λ u. ReserveRow s u reply new))
reserve-nothing-row m s node thread running t is nothing = rw (is, nothing) (one-only Ended (dropped s t.node t.thread))

pub reserve-nothing : (m : Setting) (s : State) (node thread : ℕ) (t : Transaction) → running_of node thread s ≡ Some t → IsTrue (is_empty t.marks) → ExactlyOne (Step m s (Reserve node thread))
reserve-nothing m s node thread t running nothing =
    one-unless (common_refusal m.geometry s (Reserve node thread)) s (Row m s (Reserve node thread))
    (reserve-nothing-row m s node thread (running_of node thread s) t running nothing)

some-unless : (refusal : Option Refusal) (old : State) (May : Reply → State → Type 0) → AtLeastOne May → AtLeastOne (λ reply new. Unless refusal old reply new (May reply new))
some-unless None old May one = one
some-unless (Some refusal) old May one = (Refused refusal, old, (refl, refl))

some-running : (running : Option Transaction) (old : State) (May : Transaction → Reply → State → Type 0) → ((t : Transaction) → AtLeastOne (May t)) → AtLeastOne (λ reply new. OfRunning running old reply new (λ t. May t reply new))
some-running None old May one = (Refused OutOfTurn, old, (refl, refl))
some-running (Some t) old May one = one t

some-match : (test : Bool) (May Might : Reply → State → Type 0) → AtLeastOne May → AtLeastOne Might → AtLeastOne (λ reply new. MatchBool test (May reply new) (Might reply new))
some-match true May Might one two = one
some-match false May Might one two = two

some-reserve : (s : State) (t : Transaction) → AtLeastOne (ReserveRow s t)
some-reserve s t =
    some-match (is_empty t.marks) (Only Ended (dropped s t.node t.thread)) _ (Ended, dropped s t.node t.thread, (refl, refl))
    (Refused Sealed, s, inr (Sealed, refl, refl, refl))

some-arrive : (place : Place) (s : State) (node segment : ℕ) → AtLeastOne (ArriveRow place s node segment)
some-arrive (At other) s node segment = (Refused OutOfTurn, s, (refl, refl))
some-arrive Travelling s node segment = (Accepted, placed s segment (At node), inl (refl, refl))

some-recover : (phase : Phase) (m : Setting) (s : State) → AtLeastOne (RecoverRow phase m.geometry s)
some-recover Up m s = (Refused OutOfTurn, s, (refl, refl))
some-recover (DownAt cut) m s = (Stepped 1, s, inl (1, refl, refl))

-- the numbers from one node on, for so many nodes
abbrev cut_of : (ℕ → ℕ) → ℕ → ℕ → List ℕ
cut_of table from zero = []
cut_of table from (suc n) = table from ∷ cut_of table (suc from) n

length-cut_of : (table : ℕ → ℕ) (from n : ℕ) → length (cut_of table from n) ≡ n
length-cut_of table from zero = refl
length-cut_of table from (suc n) = ap suc (length-cut_of table (suc from) n)

at-cut_of : (table : ℕ → ℕ) (from n k : ℕ) → k < n → slice_index (cut_of table from n) k ≡ table (k + from)
at-cut_of table from zero k below = absurd (omega (arith, below))
at-cut_of table from (suc n) zero below = let e : from ≡ 0 + from = omega arith in ap table e
at-cut_of table from (suc n) (suc k) below =
    let less : k < n = omega (arith, below) in
    let e : k + suc from ≡ suc k + from = omega arith in
    at-cut_of table (suc from) n k less ∙ ap table e

some-stop : (phase : Phase) (m : Setting) (s : State) → Sound m.geometry s → AtLeastOne (StopRow phase m.geometry s)
some-stop (DownAt cut) m s sound = (Stopped, s, (refl, refl))
some-stop Up m s sound =
    let n : ℕ = m.geometry.nodes in
    let cut : Cut = cut_of s.ack 0 n in
    (Stopped, record s { phase = DownAt cut }, (cut, may_cut m.geometry s cut sound (length-cut_of s.ack 0 n) (λ node below. inl (at-cut_of s.ack 0 n node below ∙ ap s.ack (omega arith))), refl, refl))

some-row : (m : Setting) (s : State) (event : Event) → Sound m.geometry s → AtLeastOne (Row m s event)
some-row m s (Begin node thread segments reading) sound = (one-row m s (Begin node thread segments reading) refl).0
some-row m s (SetRange node thread segment offset len) sound = (one-row m s (SetRange node thread segment offset len) refl).0
some-row m s (Write node thread segment offset bytes) sound = (one-row m s (Write node thread segment offset bytes) refl).0
some-row m s (Read node thread segment offset len) sound = (one-row m s (Read node thread segment offset len) refl).0
some-row m s (Abort node thread) sound = (one-row m s (Abort node thread) refl).0
some-row m s (Reserve node thread) sound = some-running (running_of node thread s) s (λ t reply new. ReserveRow s t reply new) (λ t. some-reserve s t)
some-row m s (Close node thread) sound = (one-row m s (Close node thread) refl).0
some-row m s (FlushStep node) sound =
    let one = (beside-flush s node (s.flush node).steps (s.flush node).taken).0 in
    (one.0, one.1, one.2.0)
some-row m s (Leave node segment) sound =
    some-unless (leave_refusal s node segment) s (LeaveRow s node segment) (Refused Writing, s, inr (inr (refl, refl)))
some-row m s (Arrive node segment) sound = some-arrive (s.place segment) s node segment
some-row m s (Deliver sender number segment to) sound = (HeldBack, s, (refl, refl))
some-row m s (Trim node) sound = (Trimmed 0, s, (refl, refl))
some-row m s (PageStep node segment page) sound = (Stepped 1, s, inl (refl, refl))
some-row m s (ResetStep node) sound = (Nothing, s, inl (refl, refl))
some-row m s (Stop choices) sound = some-stop s.phase m s sound
some-row m s RecoverStep sound = some-recover s.phase m s

pub some_answer : (m : Setting) (s : State) (event : Event) → Sound m.geometry s → AtLeastOne (Step m s event)
some_answer m s event sound = some-unless (common_refusal m.geometry s event) s (Row m s event) (some-row m s event sound)

-- A refusal changes nothing, but for a fault

unless-refused : (refusal : Option Refusal) (s : State) (reply : Reply) (new : State) (otherwise : Type 0) → (otherwise → new ≡ s) → Unless refusal s reply new otherwise → new ≡ s
unless-refused None s reply new otherwise next h = next h
unless-refused (Some refusal) s reply new otherwise next h = h.1

running-refused : (running : Option Transaction) (s : State) (reply : Reply) (new : State) (May : Transaction → Type 0) → ((t : Transaction) → May t → new ≡ s) → OfRunning running s reply new May → new ≡ s
running-refused None s reply new May next h = h.1
running-refused (Some t) s reply new May next h = next t h

match-refused : (P : Type 0) (b : Bool) (A B : Type 0) → (A → P) → (B → P) → MatchBool b A B → P
match-refused P true A B first second h = first h
match-refused P false A B first second h = second h

accepted-refused : (refusal : Refusal) (P : Type 0) → Refused refusal ≡ Accepted → P
accepted-refused refusal P h = absurd cc

reserve-refused : (s : State) (t : Transaction) (refusal : Refusal) (new : State) → ReserveRow s t (Refused refusal) new → new ≡ s
reserve-refused s t refusal new row =
    match-refused (new ≡ s) (is_empty t.marks) _ _
    (λ ended. absurd (let e : Refused refusal ≡ Ended = ended.0 in cc))
    (λ others. elim others [
      | inl placed_now ↦ absurd (let e : Refused refusal ≡ Reserved placed_now.0 placed_now.1 = placed_now.2 in cc)
      | inr refused ↦ refused.3
    ])
    row

moves-refused : (s : State) (node steps taken : ℕ) (refusal : Refusal) (new : State) → refusal ≢ DeviceFault → Moves s node steps taken (Refused refusal) new → new ≡ s
moves-refused s node steps taken refusal new differ row =
    elim row [
      | inl stepped ↦ absurd (let e : Refused refusal ≡ Stepped steps = stepped.0 in cc)
      | inr fault ↦ absurd (differ (let e : Refused refusal ≡ Refused DeviceFault = fault.0 in cc))
    ]

flush-refused : (s : State) (node steps taken : ℕ) (refusal : Refusal) (new : State) → refusal ≢ DeviceFault → FlushRow s node steps taken (Refused refusal) new → new ≡ s
flush-refused s node steps taken refusal new differ row =
    match-refused (new ≡ s) (steps == 0) _ _
    (match-refused (new ≡ s) (front node s.history == s.ack node) _ _ (λ nothing. nothing.1) (moves-refused s node 1 (front node s.history) refusal new differ))
    (match-refused (new ≡ s) (nat_lt steps 3) _ _ (moves-refused s node (steps + 1) taken refusal new differ)
    (λ ends. elim ends [
      | inl acked ↦ absurd (let e : Refused refusal ≡ Acked taken = acked.0 in cc)
      | inr fault ↦ absurd (differ (let e : Refused refusal ≡ Refused DeviceFault = fault.0 in cc))
    ]))
    row

leave-refused : (s : State) (node segment : ℕ) (refusal : Refusal) (new : State) → LeaveRow s node segment (Refused refusal) new → new ≡ s
leave-refused s node segment refusal new row =
    elim row [
      | inl leaves ↦ accepted-refused refusal (new ≡ s) leaves.0
      | inr stays ↦ elim stays [ inl unflushed ↦ unflushed.2 | inr writing ↦ writing.1 ]
    ]

arrive-refused : (place : Place) (s : State) (node segment : ℕ) (refusal : Refusal) (new : State) → ArriveRow place s node segment (Refused refusal) new → new ≡ s
arrive-refused (At other) s node segment refusal new row = row.1
arrive-refused Travelling s node segment refusal new row =
    elim row [ inl arrives ↦ accepted-refused refusal (new ≡ s) arrives.0 | inr behind ↦ behind.3 ]

recover-refused : (phase : Phase) (m : Setting) (s : State) (refusal : Refusal) (new : State) → RecoverRow phase m.geometry s (Refused refusal) new → new ≡ s
recover-refused Up m s refusal new row = row.1
recover-refused (DownAt cut) m s refusal new row =
    elim row [
      | inl stepped ↦ stepped.2
      | inr others ↦ elim others [ inl fault ↦ fault.1 | inr recovered ↦ absurd (let e : Refused refusal ≡ Recovered = recovered.0 in cc) ]
    ]

stop-refused : (phase : Phase) (m : Setting) (s : State) (refusal : Refusal) (new : State) → StopRow phase m.geometry s (Refused refusal) new → new ≡ s
stop-refused Up m s refusal new row = absurd (let e : Refused refusal ≡ Stopped = row.2 in cc)
stop-refused (DownAt cut) m s refusal new row = row.1

row-refused : (m : Setting) (s : State) (event : Event) (refusal : Refusal) (new : State) → refusal ≢ DeviceFault → Row m s event (Refused refusal) new → new ≡ s
row-refused m s (Begin node thread segments reading) refusal new differ row =
    unless-refused (begin_refusal m.geometry s node thread segments reading) s (Refused refusal) new _ (λ h. accepted-refused refusal (new ≡ s) h.0) row
row-refused m s (SetRange node thread segment offset len) refusal new differ row =
    running-refused (running_of node thread s) s (Refused refusal) new _
    (λ t. unless-refused (set_range_refusal m.geometry t segment offset len) s (Refused refusal) new _ (λ h. accepted-refused refusal (new ≡ s) h.0)) row
row-refused m s (Write node thread segment offset bytes) refusal new differ row =
    running-refused (running_of node thread s) s (Refused refusal) new _
    (λ t. unless-refused (write_refusal m.geometry t segment offset bytes) s (Refused refusal) new _ (λ h. accepted-refused refusal (new ≡ s) h.0)) row
row-refused m s (Read node thread segment offset len) refusal new differ row =
    running-refused (running_of node thread s) s (Refused refusal) new _
    (λ t. unless-refused (read_refusal m.geometry t segment offset len) s (Refused refusal) new _ (λ h. h.1)) row
row-refused m s (Abort node thread) refusal new differ row =
    running-refused (running_of node thread s) s (Refused refusal) new _ (λ t h. accepted-refused refusal (new ≡ s) h.0) row
row-refused m s (Reserve node thread) refusal new differ row =
    running-refused (running_of node thread s) s (Refused refusal) new _ (λ t h. reserve-refused s t refusal new h) row
row-refused m s (Close node thread) refusal new differ row =
    unless-refused (refuse_if (not (has_unclosed node thread s)) OutOfTurn None) s (Refused refusal) new _ (λ h. accepted-refused refusal (new ≡ s) h.0) row
row-refused m s (FlushStep node) refusal new differ row = flush-refused s node (s.flush node).steps (s.flush node).taken refusal new differ row
row-refused m s (Leave node segment) refusal new differ row =
    unless-refused (leave_refusal s node segment) s (Refused refusal) new _ (leave-refused s node segment refusal new) row
row-refused m s (Arrive node segment) refusal new differ row = arrive-refused (s.place segment) s node segment refusal new row
row-refused m s (Deliver sender number segment to) refusal new differ row = row.1
row-refused m s (Trim node) refusal new differ row = row.1
row-refused m s (PageStep node segment page) refusal new differ row = elim row [ inl stays ↦ stays.1 | inr fault ↦ absurd (differ (let e : Refused refusal ≡ Refused DeviceFault = fault.0 in cc)) ]
row-refused m s (ResetStep node) refusal new differ row = elim row [ inl stays ↦ stays.1 | inr fault ↦ absurd (differ (let e : Refused refusal ≡ Refused DeviceFault = fault.0 in cc)) ]
row-refused m s (Stop choices) refusal new differ row = stop-refused s.phase m s refusal new row
row-refused m s RecoverStep refusal new differ row = recover-refused s.phase m s refusal new row

pub refusals-change_nothing : (m : Setting) (s new : State) (event : Event) (refusal : Refusal) → refusal ≢ DeviceFault → Step m s event (Refused refusal) new → new ≡ s
refusals-change_nothing m s new event refusal differ step =
    unless-refused (common_refusal m.geometry s event) s (Refused refusal) new (Row m s event (Refused refusal) new) (row-refused m s event refusal new differ) step

-- While down

pub down-only : (m : Setting) (s : State) (event : Event) → is_up s.phase ≡ false → works_down event ≡ false → (reply : Reply) (new : State) → Step m s event reply new → (reply ≡ Refused Down) × (new ≡ s)
down-only m s event down works reply new step = rw (down, works) at step

recovers-only : (event : Event) → event ≢ RecoverStep → ((choices : List (List Choice)) → event ≢ Stop choices) → works_down event ≡ false
recovers-only (Begin node thread segments reading) differ no_stop = refl
recovers-only (SetRange node thread segment offset len) differ no_stop = refl
recovers-only (Write node thread segment offset bytes) differ no_stop = refl
recovers-only (Read node thread segment offset len) differ no_stop = refl
recovers-only (Abort node thread) differ no_stop = refl
recovers-only (Reserve node thread) differ no_stop = refl
recovers-only (Close node thread) differ no_stop = refl
recovers-only (FlushStep node) differ no_stop = refl
recovers-only (Leave node segment) differ no_stop = refl
recovers-only (Arrive node segment) differ no_stop = refl
recovers-only (Deliver sender number segment to) differ no_stop = refl
recovers-only (Trim node) differ no_stop = refl
recovers-only (PageStep node segment page) differ no_stop = refl
recovers-only (ResetStep node) differ no_stop = refl
recovers-only (Stop choices) differ no_stop = absurd (no_stop choices refl)
recovers-only RecoverStep differ no_stop = absurd (differ refl)

-- every other event is refused
pub down-all : (m : Setting) (s new : State) (cut : Cut) (event : Event) (reply : Reply) → s.phase ≡ DownAt cut → event ≢ RecoverStep → ((choices : List (List Choice)) → event ≢ Stop choices) → Step m s event reply new → (reply ≡ Refused Down) × (new ≡ s)
down-all m s new cut event reply down other no_stop step = down-only m s event (ap is_up down) (recovers-only event other no_stop) reply new step
