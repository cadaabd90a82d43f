-- What the machine leaves open, settled by the numbers beside its state.
use Rattle.std.specs.Prelude.{◌≡◌, ℕ, zero, suc, ◌+◌, ◌-◌, ◌^◌, Bool, true, false, ◌||◌, ◌==◌, nat_lt, nat_le, ◌⊎◌, List, [], ◌∷◌, ◌++◌, map, slice_get, Option, Some, None, is_some, IsTrue, if◌then◌else◌}
use Rattle.std.specs.List.{list_all, list_any}
use Rattle.std.specs.Option.{ForSome}
use Rattle.lc_record.specs.Marks.{counting, is_empty}
use Rattle.lc_record.specs.Part.{number_in}
use Rattle.lc_record.specs.Record.{record_len}
use Rattle.lc_record.specs.Transaction.{Transaction, is_member}
use Rattle.lc_record.specs.declared.record.Lock.{Lock}
use Rattle.lc_record.specs.declared.record.Record.{Record}
use Rattle.lc_model.specs.History.{reserved, leading}
use Rattle.lc_model.specs.Merge.{Page}
use Rattle.lc_model.specs.Refusals.{refuse_if, common_refusal, is_at, leave_refusal}
use Rattle.lc_model.specs.Sound.{holders}
use Rattle.lc_model.specs.State.{Place, At, Travelling, Setting, State, running_of}
use Rattle.lc_model.specs.Stored.{records_of}
use Rattle.lc_model.specs.declared.event.Event.{Event}
use Rattle.lc_model.specs.declared.event.Event.TheVariants.{Reserve, FlushStep, Leave, Arrive, Deliver, Trim, PageStep, ResetStep, RecoverStep}
use Rattle.lc_model.specs.declared.refusal.Refusal.{Refusal}
use Rattle.lc_model.specs.declared.refusal.Refusal.TheVariants.{Unknown, NotHere, SequenceSpent, TooLong, Sealed, Full, Writing, Unflushed, Behind, Uncommitted, NotNewer, Unclean, RoundsSpent, DeviceFault}
use Rattle.lc_model.specs.declared.reply.Reply.{Reply}
use Rattle.lc_model.specs.declared.reply.Reply.TheVariants.{Ok as Accepted, Reserved, Stepped, Acked, Nothing, Applied, HeldBack, Ignored, Trimmed, Written, Reset, Recovered, Refused}
use Rattle.lc_token.specs.Reset.{above, lesser}
use Rattle.lc_token.specs.declared.unclean.Unclean.{Unclean as Pair}
use Rattle.lc_settled.specs.Numbers.{Numbers, token_number, stable, sets_on, stable_records, log_end, published, next_record, is_applied, reached}

-- the refusal, or this reply
abbrev pub refusal_or : Option Refusal → Reply → Reply
refusal_or None reply = reply
refusal_or (Some refusal) reply = Refused refusal

-- Reservations

-- at the least segment whose numbers are spent
abbrev pub first_spent : List Lock → Option Refusal → Option Refusal
first_spent [] next = next
first_spent (lock ∷ locks) next = if nat_lt (2 ^ 60) lock.seq then Some (SequenceSpent lock.segment) else first_spent locks next

-- of a record at the end of a log, which has so many words and may be sealed
abbrev pub record_refusal : ℕ → ℕ → Bool → Record → Option Refusal
record_refusal words end sealed r =
    first_spent r.locks
    (refuse_if (nat_lt 4096 (record_len r)) (TooLong (record_len r))
    (refuse_if sealed Sealed
    (refuse_if (nat_lt words (end + record_len r)) (Full end (record_len r))
    None)))

-- its place is the end of the node's records in this round, its words are the record's
abbrev pub reserve_answer : Setting → State → Numbers → Transaction → Reply
reserve_answer m s x t =
    refusal_or (record_refusal m.geometry.words (log_end m s x t.node) (nat_lt 0 (x.reset t.node)) (next_record m s x t))
    (Reserved (log_end m s x t.node) (record_len (next_record m s x t)))

-- the open transaction's; one that set nothing is over
abbrev pub reserve_open : Setting → State → Numbers → Option Transaction → Option Reply
reserve_open m s x None = None
reserve_open m s x (Some t) = if is_empty t.marks then None else Some (reserve_answer m s x t)

-- Tokens

-- some page of the segment is being written
abbrev pub is_writing : Setting → Numbers → ℕ → Bool
is_writing m x segment = list_any (λ page. nat_lt 0 (x.calls segment page)) (counting 0 m.geometry.pages)

-- the node has reserved a record that is not stable
abbrev pub is_unflushed : State → ℕ → Bool
is_unflushed s node = nat_lt (s.ack node) (reserved node s.history)

abbrev pub leave_answer : Setting → State → Numbers → ℕ → ℕ → Reply
leave_answer m s x node segment =
    refusal_or (refuse_if (is_writing m x segment) Writing (refuse_if (is_unflushed s node) Unflushed None)) Accepted

-- of a token that travels
abbrev pub arrive_answer : Place → State → Numbers → ℕ → ℕ → Option Reply
arrive_answer (At other) s x node segment = None
arrive_answer Travelling s x node segment =
    Some (refusal_or
    (refuse_if (nat_lt (x.applied node segment) (token_number s x segment)) (Behind (x.applied node segment) (token_number s x segment)) None)
    Accepted)

-- Peers

-- of a record under this number at a node
abbrev pub receive_answer : Numbers → ℕ → ℕ → ℕ → Reply
receive_answer x to segment number =
    if nat_le number (x.applied to segment) || is_member number (x.waiting to segment) then Ignored
    else if number == x.applied to segment + 1 then Applied (reached number (x.waiting to segment))
    else HeldBack

-- of a record that is kept; without a lock on the segment it is unknown
abbrev pub record_answer : Numbers → ℕ → ℕ → Option ℕ → Reply
record_answer x to segment None = Refused Unknown
record_answer x to segment (Some number) = receive_answer x to segment number

-- the number that a record has of the segment
abbrev pub number_of : ℕ → Option Record → Option ℕ
number_of segment None = None
number_of segment (Some r) = number_in segment r.locks

-- of the record that has this number among the sender's since the last recovery, counted from 1
abbrev pub deliver_answer : Setting → State → Numbers → ℕ → ℕ → ℕ → ℕ → Reply
deliver_answer m s x sender number segment to =
    if (number == 0) || nat_lt (s.ack sender) number then Refused Unknown
    else if nat_le number (x.trimmed sender) then Ignored
    else record_answer x to segment (number_of segment (slice_get (records_of m s x.disks sender) (number - 1)))

-- of the published records those in front that every node has applied
abbrev pub trim_answer : Setting → State → Numbers → ℕ → Reply
trim_answer m s x node = Trimmed (leading (map (λ (r : Record). list_all (is_applied m.geometry x) r.locks) (published m s x node)))

-- Pages

-- the number that a page write is to put in place
abbrev pub begun_number : Option Page → ℕ
begun_number None = 0
begun_number (Some text) = text.sequence

-- before the first call of a page write
abbrev pub page_refusal : State → Numbers → ℕ → ℕ → ℕ → Option Refusal
page_refusal s x node segment page =
    refuse_if (list_any (sets_on segment page) (holders s)) Uncommitted
    (refuse_if (is_unflushed s node) Unflushed
    (refuse_if (nat_le (token_number s x segment) (stable x segment page)) NotNewer
    None))

-- by how many calls of the page's write are made
abbrev pub page_call : State → Numbers → ℕ → ℕ → ℕ → ℕ → Reply
page_call s x node segment page zero = refusal_or (page_refusal s x node segment page) (Stepped 1)
page_call s x node segment page (suc calls) =
    if nat_lt calls 4 then Stepped (suc calls + 1) else Written (begun_number (x.disks.begun segment page))

abbrev pub page_answer : State → Numbers → ℕ → ℕ → ℕ → Reply
page_answer s x node segment page =
    if is_at node (s.place segment) then page_call s x node segment page (x.calls segment page) else Refused (NotHere segment)

-- Resets

-- the least lock above what is known
abbrev pub least_unclean : (ℕ → ℕ) → List Lock → Option Pair
least_unclean known [] = None
least_unclean known (lock ∷ locks) = lesser (above known lock) (least_unclean known locks)

-- the locks of these records
abbrev pub locks_in : List Record → List Lock
locks_in [] = []
locks_in (r ∷ rs) = r.locks ++ locks_in rs

-- of a log whose records have these locks
abbrev pub unclean_or : Option Pair → Option Refusal → Option Refusal
unclean_or None next = next
unclean_or (Some pair) next = Some (Unclean pair.segment pair.seq)

-- the last round of a log
abbrev pub last_round : ℕ
last_round = 2 ^ 48 - 1

-- the first step of a reset of a log with these stable records
abbrev pub reset_begins : State → Numbers → ℕ → List Record → Reply
reset_begins s x node [] = if is_unflushed s node then Refused Unflushed else Nothing
reset_begins s x node (r ∷ rs) =
    refusal_or
    (refuse_if (is_unflushed s node) Unflushed
    (unclean_or (least_unclean (x.known node) (locks_in (r ∷ rs)))
    (refuse_if (x.round node == last_round) RoundsSpent
    None)))
    (Stepped 1)

-- by how many steps of the reset are done
abbrev pub reset_call : Setting → State → Numbers → ℕ → ℕ → Reply
reset_call m s x node zero = reset_begins s x node (stable_records m s x node)
reset_call m s x node (suc steps) = if nat_lt steps 2 then Stepped (suc steps + 1) else Reset

-- All events

-- the answer that the numbers settle; none where the machine leaves nothing open
abbrev pub open_answer : Setting → State → Numbers → Event → Option Reply
open_answer m s x (Reserve node thread) = reserve_open m s x (running_of node thread s)
open_answer m s x (Leave node segment) =
    if is_some (leave_refusal s node segment) then None else Some (leave_answer m s x node segment)
open_answer m s x (Arrive node segment) = arrive_answer (s.place segment) s x node segment
open_answer m s x (Deliver sender number segment to) = Some (deliver_answer m s x sender number segment to)
open_answer m s x (Trim node) = Some (trim_answer m s x node)
open_answer m s x (PageStep node segment page) = Some (page_answer s x node segment page)
open_answer m s x (ResetStep node) = Some (reset_call m s x node (x.reset node))
open_answer m s x _ = None

-- after the refusals that are common to all
abbrev pub settled_answer : Setting → State → Numbers → Event → Option Reply
settled_answer m s x event = if is_some (common_refusal m.geometry s event) then None else open_answer m s x event

-- the event that is answered so called the device
abbrev pub makes_call : Event → Reply → Bool
makes_call (FlushStep node) (Stepped steps) = true
makes_call (FlushStep node) (Acked count) = true
makes_call (PageStep node segment page) (Stepped steps) = true
makes_call (PageStep node segment page) (Written number) = true
makes_call (ResetStep node) (Stepped steps) = nat_lt 1 steps
makes_call RecoverStep (Stepped steps) = true
makes_call RecoverStep Recovered = true
makes_call event reply = false

-- this answer, or a fault of the device that it calls
abbrev pub IsAnswer : Event → Reply → Reply → Type 0
IsAnswer event answer reply = (reply ≡ answer) ⊎ (IsTrue (makes_call event answer) × (reply ≡ Refused DeviceFault))

-- the steps of a recovery are counted from 1
abbrev pub CountsSteps : Numbers → Reply → Type 0
CountsSteps x reply = (steps : ℕ) → reply ≡ Stepped steps → steps ≡ x.steps + 1

-- the reply is the one that is settled
abbrev pub Settled : Setting → State → Numbers → Event → Reply → Type 0
Settled m s x event reply = ForSome (settled_answer m s x event) (λ answer. IsAnswer event answer reply) × (event ≡ RecoverStep → CountsSteps x reply)
