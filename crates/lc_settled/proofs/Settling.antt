-- Each event has a settled answer that the machine allows, and one such reply.
use Rattle.std.proofs.Common.{◌≡◌, ◌≢◌, ℕ, zero, suc, ◌+◌, ◌<◌, ◌≤◌, Bool, true, false, ◌||◌, ◌==◌, nat_lt, nat_le, List, [], ◌∷◌, slice_get, Option, Some, None, IsTrue, is_some, refl, sym, ◌∙◌, ap, subst, inl, inr, arith}
use Rattle.std.specs.Prelude.{MatchBool, ◌-◌, ◌^◌, if◌then◌else◌}
use Rattle.std.specs.List.{list_any}
use Rattle.std.specs.Option.{ForSome}
use Rattle.std.proofs.lemmas.Bool.{le-ltb, ltb-true, ltb-false}
use Rattle.lc_record.specs.Marks.{is_empty}
use Rattle.lc_record.specs.Record.{record_len}
use Rattle.lc_record.specs.Transaction.{Transaction, is_member}
use Rattle.lc_record.specs.declared.record.Lock.{Lock}
use Rattle.lc_record.specs.declared.record.Record.{Record}
use Rattle.lc_model.specs.Choices.{AtLeastOne}
use Rattle.lc_model.specs.History.{reserved}
use Rattle.lc_model.specs.Machine.{Step, Row, ReserveRow, LeaveRow, ArriveRow, RecoverRow, StopRow, may_refuse_reserve, may_deliver, may_page, may_reset, appended, placed}
use Rattle.lc_model.specs.Refusals.{refuse_if, Unless, OfRunning, common_refusal, is_at, leave_refusal}
use Rattle.lc_model.specs.Sound.{Sound}
use Rattle.lc_model.specs.State.{Place, At, Travelling, Phase, Up, DownAt, Setting, State, running_of}
use Rattle.lc_model.specs.Stored.{records_of}
use Rattle.lc_model.specs.declared.event.Event.{Event}
use Rattle.lc_model.specs.declared.event.Event.TheVariants.{Begin, SetRange, Write, Read, Abort, Reserve, Close, FlushStep, Leave, Arrive, Deliver, Trim, PageStep, ResetStep, Stop, RecoverStep}
use Rattle.lc_model.specs.declared.refusal.Refusal.{Refusal}
use Rattle.lc_model.specs.declared.refusal.Refusal.TheVariants.{Unknown, NotHere, SequenceSpent, TooLong, Sealed, Full, Writing, Unflushed, Behind, Uncommitted, NotNewer, RoundsSpent, DeviceFault, OutOfTurn}
use Rattle.lc_model.specs.declared.reply.Reply.{Reply}
use Rattle.lc_model.specs.declared.reply.Reply.TheVariants.{Ok as Accepted, Reserved, Stepped, Nothing, Applied, HeldBack, Ignored, Refused}
use Rattle.lc_model.proofs.Choices.{some_answer, one_answer, flush_step-one}
use Rattle.lc_model.proofs.Keeps.{acked-reserved}
use Rattle.lc_token.specs.declared.unclean.Unclean.{Unclean as Pair}
use Rattle.lc_settled.specs.Numbers.{Numbers, token_number, stable, sets_on, stable_records, log_end, next_record, reached}
use Rattle.lc_settled.specs.Settled.{refusal_or, first_spent, record_refusal, reserve_answer, reserve_open, is_writing, is_unflushed, leave_answer, arrive_answer, receive_answer, record_answer, number_of, deliver_answer, trim_answer, page_call, page_answer, least_unclean, locks_in, unclean_or, last_round, reset_begins, reset_call, open_answer, IsAnswer, CountsSteps, Settled}

-- Answers that are allowed

-- of a test on replies
if-may : (may : Reply → Bool) (test : Bool) (reply other : Reply) → IsTrue (may reply) → IsTrue (may other) → IsTrue (may (if test then reply else other))
if-may may true reply other one two = one
if-may may false reply other one two = two

refusals-may : (may : Reply → Bool) (test : Bool) (refusal : Refusal) (others : Option Refusal) (reply : Reply) → IsTrue (may (Refused refusal)) → IsTrue (may (refusal_or others reply)) → IsTrue (may (refusal_or (refuse_if test refusal others) reply))
refusals-may may true refusal others reply one two = one
refusals-may may false refusal others reply one two = two

receive-may : (x : Numbers) (to segment number : ℕ) → IsTrue (may_deliver (receive_answer x to segment number))
receive-may x to segment number =
    if-may may_deliver (nat_le number (x.applied to segment) || is_member number (x.waiting to segment)) Ignored _ refl
    (if-may may_deliver (number == x.applied to segment + 1) (Applied (reached number (x.waiting to segment))) HeldBack refl refl)

record-may : (x : Numbers) (to segment : ℕ) (number : Option ℕ) → IsTrue (may_deliver (record_answer x to segment number))
record-may x to segment None = refl
record-may x to segment (Some number) = receive-may x to segment number

deliver-may : (m : Setting) (s : State) (x : Numbers) (sender number segment to : ℕ) → IsTrue (may_deliver (deliver_answer m s x sender number segment to))
deliver-may m s x sender number segment to =
    if-may may_deliver ((number == 0) || nat_lt (s.ack sender) number) (Refused Unknown) _ refl
    (if-may may_deliver (nat_le number (x.trimmed sender)) Ignored _ refl
    (record-may x to segment (number_of segment (slice_get (records_of m s x.disks sender) (number - 1)))))

page_call-may : (s : State) (x : Numbers) (node segment page calls : ℕ) → IsTrue (may_page (page_call s x node segment page calls))
page_call-may s x node segment page zero =
    refusals-may may_page (list_any (sets_on segment page) _) Uncommitted _ (Stepped 1) refl
    (refusals-may may_page (is_unflushed s node) Unflushed _ (Stepped 1) refl
    (refusals-may may_page (nat_le (token_number s x segment) (stable x segment page)) NotNewer None (Stepped 1) refl refl))
page_call-may s x node segment page (suc zero) = refl
page_call-may s x node segment page (suc (suc zero)) = refl
page_call-may s x node segment page (suc (suc (suc zero))) = refl
page_call-may s x node segment page (suc (suc (suc (suc zero)))) = refl
page_call-may s x node segment page (suc (suc (suc (suc (suc calls))))) =
    let most : 4 ≤ suc (suc (suc (suc calls))) = omega arith in
    rw (le-ltb (suc (suc (suc (suc calls)))) 4 most) refl

page-may : (s : State) (x : Numbers) (node segment page : ℕ) → IsTrue (may_page (page_answer s x node segment page))
page-may s x node segment page =
    if-may may_page (is_at node (s.place segment)) _ (Refused (NotHere segment)) (page_call-may s x node segment page (x.calls segment page)) refl

unclean-may : (pair : Option Pair) (others : Option Refusal) (reply : Reply) → IsTrue (may_reset (refusal_or others reply)) → IsTrue (may_reset (refusal_or (unclean_or pair others) reply))
unclean-may None others reply next = next
unclean-may (Some pair) others reply next = refl

reset_begins-may : (s : State) (x : Numbers) (node : ℕ) (records : List Record) → IsTrue (may_reset (reset_begins s x node records))
reset_begins-may s x node [] = if-may may_reset (is_unflushed s node) (Refused Unflushed) Nothing refl refl
reset_begins-may s x node (r ∷ rs) =
    refusals-may may_reset (is_unflushed s node) Unflushed _ (Stepped 1) refl
    (unclean-may (least_unclean (x.known node) (locks_in (r ∷ rs))) _ (Stepped 1)
    (refusals-may may_reset (x.round node == last_round) RoundsSpent None (Stepped 1) refl refl))

reset-may : (m : Setting) (s : State) (x : Numbers) (node steps : ℕ) → IsTrue (may_reset (reset_call m s x node steps))
reset-may m s x node zero = reset_begins-may s x node (stable_records m s x node)
reset-may m s x node (suc zero) = refl
reset-may m s x node (suc (suc zero)) = refl
reset-may m s x node (suc (suc (suc steps))) =
    let most : 2 ≤ suc (suc steps) = omega arith in
    rw (le-ltb (suc (suc steps)) 2 most) refl

-- Reservations, tokens

-- a refusal, if there is one, is such
abbrev pub may_all : (Refusal → Bool) → Option Refusal → Bool
may_all may None = true
may_all may (Some refusal) = may refusal

if-all : (may : Refusal → Bool) (test : Bool) (one other : Option Refusal) → IsTrue (may_all may one) → IsTrue (may_all may other) → IsTrue (may_all may (if test then one else other))
if-all may true one other first second = first
if-all may false one other first second = second

refused-all : (may : Refusal → Bool) (test : Bool) (refusal : Refusal) (others : Option Refusal) → IsTrue (may refusal) → IsTrue (may_all may others) → IsTrue (may_all may (refuse_if test refusal others))
refused-all may true refusal others first second = first
refused-all may false refusal others first second = second

spent-may : (locks : List Lock) (next : Option Refusal) → IsTrue (may_all may_refuse_reserve next) → IsTrue (may_all may_refuse_reserve (first_spent locks next))
spent-may [] next may = may
spent-may (lock ∷ locks) next may =
    if-all may_refuse_reserve (nat_lt (2 ^ 60) lock.seq) (Some (SequenceSpent lock.segment)) (first_spent locks next) refl (spent-may locks next may)

pub refusal-may : (words end : ℕ) (sealed : Bool) (r : Record) → IsTrue (may_all may_refuse_reserve (record_refusal words end sealed r))
refusal-may words end sealed r =
    spent-may r.locks _
    (refused-all may_refuse_reserve (nat_lt 4096 (record_len r)) (TooLong (record_len r)) _ refl
    (refused-all may_refuse_reserve sealed Sealed _ refl
    (refused-all may_refuse_reserve (nat_lt words (end + record_len r)) (Full end (record_len r)) None refl refl)))

reserve-row : (s : State) (t : Transaction) (refusal : Option Refusal) (place words : ℕ) → is_empty t.marks ≡ false → IsTrue (may_all may_refuse_reserve refusal) → (new : State) × ReserveRow s t (refusal_or refusal (Reserved place words)) new
reserve-row s t None place words set may = (appended s t, rw (set) (inl (place, words, refl, refl)))
reserve-row s t (Some refusal) place words set may = (s, rw (set) (inr (refusal, may, refl, refl)))

leave-row : (s : State) (node segment : ℕ) (writing unflushed : Bool) → (unflushed ≡ true → s.ack node < reserved node s.history) → (unflushed ≡ false → s.ack node ≡ reserved node s.history)
    → (new : State) × LeaveRow s node segment (refusal_or (refuse_if writing Writing (refuse_if unflushed Unflushed None)) Accepted) new
leave-row s node segment true unflushed below all = (s, inr (inr (refl, refl)))
leave-row s node segment false true below all = (s, inr (inl (refl, below refl, refl)))
leave-row s node segment false false below all = (placed s segment Travelling, inl (refl, all refl, refl))

arrive-row : (s : State) (node segment : ℕ) (behind : Bool) (applied seq : ℕ) → (new : State) × ArriveRow Travelling s node segment (refusal_or (refuse_if behind (Behind applied seq) None) Accepted) new
arrive-row s node segment true applied seq = (s, inr (applied, seq, refl, refl))
arrive-row s node segment false applied seq = (placed s segment (At node), inl (refl, refl))

module _ (m : Setting) (s : State) (x : Numbers) where
  abbrev pub Allowed : Event → Reply → State → Type 0
  Allowed event reply new = Step m s event reply new × Settled m s x event reply

  none-open : (test : Bool) (answer : Option Reply) → answer ≡ None → (P : Reply → Type 0) → ForSome (if test then None else answer) P
  none-open true answer is P a e = absurd cc
  none-open false answer is P a e = absurd cc

  -- where the machine leaves nothing open
  quiet : (event : Event) → open_answer m s x event ≡ None → event ≢ RecoverStep → AtLeastOne (Step m s event) → AtLeastOne (Allowed event)
  quiet event none differ some =
      (some.0, some.1, (some.2, (none-open (is_some (common_refusal m.geometry s event)) (open_answer m s x event) none (λ a. IsAnswer event a some.0), λ e. absurd (differ e))))

  -- where it leaves an answer open
  behind : (refusal : Option Refusal) (event : Event) (answer : Reply) (new : State) → open_answer m s x event ≡ Some answer → event ≢ RecoverStep → Row m s event answer new
      → AtLeastOne (λ reply after. Unless refusal s reply after (Row m s event reply after) × (ForSome (if is_some refusal then None else open_answer m s x event) (λ a. IsAnswer event a reply) × (event ≡ RecoverStep → CountsSteps x reply)))
  behind (Some refusal) event answer new is differ row = (Refused refusal, s, ((refl, refl), (λ a e. absurd cc, λ e. absurd (differ e))))
  behind None event answer new is differ row = (answer, new, (row, (λ a e. inl cc, λ e. absurd (differ e))))

  answered : (event : Event) (answer : Reply) → open_answer m s x event ≡ Some answer → event ≢ RecoverStep → (new : State) × Row m s event answer new → AtLeastOne (Allowed event)
  answered event answer is differ row = behind (common_refusal m.geometry s event) event answer row.0 is differ row.1

  some-reserve : (node thread : ℕ) (running : Option Transaction) → running_of node thread s ≡ running → Sound m.geometry s → AtLeastOne (Allowed (Reserve node thread))
  some-reserve node thread None is sound = quiet (Reserve node thread) (ap (reserve_open m s x) is) (λ e. cc) (some_answer m s (Reserve node thread) sound)
  some-reserve node thread (Some t) is sound =
      elim (is_empty t.marks) as (λ b. is_empty t.marks ≡ b → AtLeastOne (Allowed (Reserve node thread))) [
        | true ↦ λ e. quiet (Reserve node thread) (ap (reserve_open m s x) is ∙ ap (λ b. if b then None else Some (reserve_answer m s x t)) e) (λ e. cc) (some_answer m s (Reserve node thread) sound)
        | false ↦ λ e.
            let row = reserve-row s t (record_refusal m.geometry.words (log_end m s x t.node) (nat_lt 0 (x.reset t.node)) (next_record m s x t)) (log_end m s x t.node) (record_len (next_record m s x t)) e (refusal-may m.geometry.words (log_end m s x t.node) (nat_lt 0 (x.reset t.node)) (next_record m s x t)) in
            answered (Reserve node thread) (reserve_answer m s x t) (ap (reserve_open m s x) is ∙ ap (λ b. if b then None else Some (reserve_answer m s x t)) e) (λ e. cc)
            (row.0, subst (λ o. OfRunning o s (reserve_answer m s x t) row.0 (λ u. ReserveRow s u (reserve_answer m s x t) row.0)) (sym is) row.1)
      ] refl

  some-leave : (node segment : ℕ) (refusal : Option Refusal) → leave_refusal s node segment ≡ refusal → Sound m.geometry s → AtLeastOne (Allowed (Leave node segment))
  some-leave node segment (Some refusal) is sound =
      quiet (Leave node segment) (ap (λ (o : Option Refusal). if is_some o then None else Some (leave_answer m s x node segment)) is) (λ e. cc) (some_answer m s (Leave node segment) sound)
  some-leave node segment None is sound =
      let most = acked-reserved m.geometry s node sound in
      let row = leave-row s node segment (is_writing m x segment) (is_unflushed s node) (λ e. ltb-true (s.ack node) (reserved node s.history) e) (λ e. let least = ltb-false (s.ack node) (reserved node s.history) e in omega (arith, least, most)) in
      answered (Leave node segment) (leave_answer m s x node segment) (ap (λ (o : Option Refusal). if is_some o then None else Some (leave_answer m s x node segment)) is) (λ e. cc)
      (row.0, subst (λ o. Unless o s (leave_answer m s x node segment) row.0 (LeaveRow s node segment (leave_answer m s x node segment) row.0)) (sym is) row.1)

  some-arrive : (node segment : ℕ) (place : Place) → s.place segment ≡ place → Sound m.geometry s → AtLeastOne (Allowed (Arrive node segment))
  some-arrive node segment (At other) is sound =
      quiet (Arrive node segment) (ap (λ p. arrive_answer p s x node segment) is) (λ e. cc) (some_answer m s (Arrive node segment) sound)
  some-arrive node segment Travelling is sound =
      let applied = x.applied node segment in
      let seq = token_number s x segment in
      let row = arrive-row s node segment (nat_lt applied seq) applied seq in
      answered (Arrive node segment) (refusal_or (refuse_if (nat_lt applied seq) (Behind applied seq) None) Accepted) (ap (λ p. arrive_answer p s x node segment) is) (λ e. cc)
      (row.0, subst (λ p. ArriveRow p s node segment (refusal_or (refuse_if (nat_lt applied seq) (Behind applied seq) None) Accepted) row.0) (sym is) row.1)

  recovers : (refusal : Option Refusal) (phase : Phase) → AtLeastOne (λ reply new. Unless refusal s reply new (RecoverRow phase m.geometry s reply new) × (ForSome (if is_some refusal then None else None) (λ a. IsAnswer RecoverStep a reply) × (RecoverStep ≡ RecoverStep → CountsSteps x reply)))
  recovers (Some refusal) phase = (Refused refusal, s, ((refl, refl), (λ a e. absurd cc, λ e steps is. absurd cc)))
  recovers None Up = (Refused OutOfTurn, s, ((refl, refl), (λ a e. absurd cc, λ e steps is. absurd cc)))
  recovers None (DownAt cut) = (Stepped (x.steps + 1), s, (inl (x.steps + 1, refl, refl), (λ a e. absurd cc, λ e steps is. cc)))

  pub some-settled : (event : Event) → Sound m.geometry s → AtLeastOne (Allowed event)
  some-settled (Begin node thread segments reading) sound = quiet (Begin node thread segments reading) refl (λ e. cc) (some_answer m s (Begin node thread segments reading) sound)
  some-settled (SetRange node thread segment offset len) sound = quiet (SetRange node thread segment offset len) refl (λ e. cc) (some_answer m s (SetRange node thread segment offset len) sound)
  some-settled (Write node thread segment offset bytes) sound = quiet (Write node thread segment offset bytes) refl (λ e. cc) (some_answer m s (Write node thread segment offset bytes) sound)
  some-settled (Read node thread segment offset len) sound = quiet (Read node thread segment offset len) refl (λ e. cc) (some_answer m s (Read node thread segment offset len) sound)
  some-settled (Abort node thread) sound = quiet (Abort node thread) refl (λ e. cc) (some_answer m s (Abort node thread) sound)
  some-settled (Reserve node thread) sound = some-reserve node thread (running_of node thread s) refl sound
  some-settled (Close node thread) sound = quiet (Close node thread) refl (λ e. cc) (some_answer m s (Close node thread) sound)
  some-settled (FlushStep node) sound = quiet (FlushStep node) refl (λ e. cc) (some_answer m s (FlushStep node) sound)
  some-settled (Leave node segment) sound = some-leave node segment (leave_refusal s node segment) refl sound
  some-settled (Arrive node segment) sound = some-arrive node segment (s.place segment) refl sound
  some-settled (Deliver sender number segment to) sound =
      answered (Deliver sender number segment to) (deliver_answer m s x sender number segment to) refl (λ e. cc) (s, (deliver-may m s x sender number segment to, refl))
  some-settled (Trim node) sound = answered (Trim node) (trim_answer m s x node) refl (λ e. cc) (s, (refl, refl))
  some-settled (PageStep node segment page) sound =
      answered (PageStep node segment page) (page_answer s x node segment page) refl (λ e. cc) (s, inl (page-may s x node segment page, refl))
  some-settled (ResetStep node) sound = answered (ResetStep node) (reset_call m s x node (x.reset node)) refl (λ e. cc) (s, inl (reset-may m s x node (x.reset node), refl))
  some-settled (Stop choices) sound = quiet (Stop choices) refl (λ e. cc) (some_answer m s (Stop choices) sound)
  some-settled RecoverStep sound = recovers (common_refusal m.geometry s RecoverStep) s.phase

-- One reply

module _ (m : Setting) (s : State) (x : Numbers) where
  -- where an answer is open, there is one; else by the rows
  one-open : (refusal : Option Refusal) (event : Event) (answer : Option Reply) (May Might : Type 0) (reply other : Reply) (new next : State)
      → Unless refusal s reply new May → ForSome (if is_some refusal then None else answer) (λ a. IsAnswer event a reply)
      → Unless refusal s other next Might → ForSome (if is_some refusal then None else answer) (λ a. IsAnswer event a other)
      → reply ≢ Refused DeviceFault → other ≢ Refused DeviceFault → (answer ≡ None → May → Might → reply ≡ other) → reply ≡ other
  one-open (Some refusal) event answer May Might reply other new next first settled second settles a b rows = first.0 ∙ sym second.0
  one-open None event None May Might reply other new next first settled second settles a b rows = rows refl first second
  one-open None event (Some answer) May Might reply other new next first settled second settles a b rows =
      elim (settled answer refl) [
        | inl one ↦ elim (settles answer refl) [ inl two ↦ one ∙ sym two | inr two ↦ absurd (b two.1) ]
        | inr one ↦ absurd (a one.1)
      ]

  abbrev Rows : Event → Type 0
  Rows event = (reply other : Reply) (new next : State) → open_answer m s x event ≡ None → Row m s event reply new → Row m s event other next → reply ≡ other

  one-by-rows : (event : Event) (reply other : Reply) (new next : State) → Rows event → Step m s event reply new → Settled m s x event reply → Step m s event other next → Settled m s x event other
      → reply ≢ Refused DeviceFault → other ≢ Refused DeviceFault → reply ≡ other
  one-by-rows event reply other new next rows first settled second settles a b =
      one-open (common_refusal m.geometry s event) event (open_answer m s x event) (Row m s event reply new) (Row m s event other next) reply other new next first settled.0 second settles.0 a b (rows reply other new next)

  match-one : (empty : Bool) (answer : Reply) (May Might Others Otherwise : Type 0) (P : Type 0) → (if empty then None else Some answer) ≡ None → MatchBool empty May Others → MatchBool empty Might Otherwise → (May → Might → P) → P
  match-one true answer May Might Others Otherwise P is first second both = both first second
  match-one false answer May Might Others Otherwise P is first second both = absurd cc

  reserve-rows : (running : Option Transaction) (reply other : Reply) (new next : State) → reserve_open m s x running ≡ None
      → OfRunning running s reply new (λ t. ReserveRow s t reply new) → OfRunning running s other next (λ t. ReserveRow s t other next) → reply ≡ other
  reserve-rows None reply other new next is first second = first.0 ∙ sym second.0
  reserve-rows (Some t) reply other new next is first second =
      match-one (is_empty t.marks) (reserve_answer m s x t) _ _ _ _ (reply ≡ other) is first second (λ one two. one.0 ∙ sym two.0)

  leave-rows : (node segment : ℕ) (refusal : Option Refusal) (reply other : Reply) (new next : State) → (if is_some refusal then None else Some (leave_answer m s x node segment)) ≡ None
      → Unless refusal s reply new (LeaveRow s node segment reply new) → Unless refusal s other next (LeaveRow s node segment other next) → reply ≡ other
  leave-rows node segment (Some refusal) reply other new next is first second = first.0 ∙ sym second.0
  leave-rows node segment None reply other new next is first second = absurd cc

  arrive-rows : (node segment : ℕ) (place : Place) (reply other : Reply) (new next : State) → arrive_answer place s x node segment ≡ None
      → ArriveRow place s node segment reply new → ArriveRow place s node segment other next → reply ≡ other
  arrive-rows node segment (At at) reply other new next is first second = first.0 ∙ sym second.0
  arrive-rows node segment Travelling reply other new next is first second = absurd cc

  stop-rows : (phase : Phase) (reply other : Reply) (new next : State) → StopRow phase m.geometry s reply new → StopRow phase m.geometry s other next → reply ≡ other
  stop-rows Up reply other new next first second = first.2 ∙ sym second.2
  stop-rows (DownAt cut) reply other new next first second = first.0 ∙ sym second.0

  pub one-settled : (event : Event) (reply other : Reply) (new next : State) → Step m s event reply new → Settled m s x event reply → Step m s event other next → Settled m s x event other
      → reply ≢ Refused DeviceFault → other ≢ Refused DeviceFault → event ≢ RecoverStep → reply ≡ other
  one-settled (Begin node thread segments reading) reply other new next first settled second settles a b c = ((one_answer m s (Begin node thread segments reading) refl).1 reply other new next first second).0
  one-settled (SetRange node thread segment offset len) reply other new next first settled second settles a b c = ((one_answer m s (SetRange node thread segment offset len) refl).1 reply other new next first second).0
  one-settled (Write node thread segment offset bytes) reply other new next first settled second settles a b c = ((one_answer m s (Write node thread segment offset bytes) refl).1 reply other new next first second).0
  one-settled (Read node thread segment offset len) reply other new next first settled second settles a b c = ((one_answer m s (Read node thread segment offset len) refl).1 reply other new next first second).0
  one-settled (Abort node thread) reply other new next first settled second settles a b c = ((one_answer m s (Abort node thread) refl).1 reply other new next first second).0
  one-settled (Reserve node thread) reply other new next first settled second settles a b c =
      one-by-rows (Reserve node thread) reply other new next (λ r q n k. reserve-rows (running_of node thread s) r q n k) first settled second settles a b
  one-settled (Close node thread) reply other new next first settled second settles a b c = ((one_answer m s (Close node thread) refl).1 reply other new next first second).0
  one-settled (FlushStep node) reply other new next first settled second settles a b c = ((flush_step-one m s node).1 reply other new next (first, a) (second, b)).0
  one-settled (Leave node segment) reply other new next first settled second settles a b c =
      one-by-rows (Leave node segment) reply other new next (λ r q n k. leave-rows node segment (leave_refusal s node segment) r q n k) first settled second settles a b
  one-settled (Arrive node segment) reply other new next first settled second settles a b c =
      one-by-rows (Arrive node segment) reply other new next (λ r q n k. arrive-rows node segment (s.place segment) r q n k) first settled second settles a b
  one-settled (Deliver sender number segment to) reply other new next first settled second settles a b c =
      one-by-rows (Deliver sender number segment to) reply other new next (λ r q n k is. absurd cc) first settled second settles a b
  one-settled (Trim node) reply other new next first settled second settles a b c =
      one-by-rows (Trim node) reply other new next (λ r q n k is. absurd cc) first settled second settles a b
  one-settled (PageStep node segment page) reply other new next first settled second settles a b c =
      one-by-rows (PageStep node segment page) reply other new next (λ r q n k is. absurd cc) first settled second settles a b
  one-settled (ResetStep node) reply other new next first settled second settles a b c =
      one-by-rows (ResetStep node) reply other new next (λ r q n k is. absurd cc) first settled second settles a b
  one-settled (Stop choices) reply other new next first settled second settles a b c =
      one-by-rows (Stop choices) reply other new next (λ r q n k is. stop-rows s.phase r q n k) first settled second settles a b
  one-settled RecoverStep reply other new next first settled second settles a b c = absurd (c refl)
