-- Of nodes that run: what is applied at a node and what waits there changes, and nothing else of the numbers.
use Rattle.std.proofs.Common.{◌≡◌, ◌≢◌, ℕ, ◌-◌, ◌<◌, ◌≤◌, ◌||◌, ◌==◌, true, false, List, filter, nat_lt, nat_le, Option, Some, ap, refl, ◌∙◌, inl, inr, arith}
use Rattle.std.specs.Prelude.{◌⊎◌, slice_get, if◌then◌else◌}
use Rattle.std.proofs.lemmas.Bool.{eq-eqb, le-leb, le-ltb, lt-leb, lt-ltb, ne_eqb, or_right}
use Rattle.lc_disk.specs.declared.area.Area.{Ghosts}
use Rattle.lc_token.specs.declared.received.Received.{Received}
use Rattle.lc_token.specs.declared.received.Received.TheVariants.{Applied, HeldBack, Ignored}
use Rattle.lc_model.specs.State.{Setting, State}
use Rattle.lc_model.specs.Stored.{records_of}
use Rattle.lc_model.specs.declared.event.Event.TheVariants.{Deliver}
use Rattle.lc_model.specs.declared.refusal.Refusal.TheVariants.{Unknown}
use Rattle.lc_model.specs.declared.reply.Reply.TheVariants.{Ignored as IsIgnored, Refused}
use Rattle.lc_journal.specs.Beside.{BesideLogs}
use Rattle.lc_events.specs.Beside.{BesideSlots}
use Rattle.lc_journal.specs.Journal.{FitsLog}
use Rattle.lc_settled.specs.Numbers.{Numbers}
use Rattle.lc_desk.specs.Receives.{received_numbers, reply_of}
use Rattle.lc_journal.specs.Records.{KeptRecords}
use Rattle.lc_settled.specs.Settled.{number_of, deliver_answer, record_answer}
use Rattle.lc_settled.specs.Turns.{applied_to, held_back, numbers_after, put_number}
use Rattle.lc_journal.specs.declared.log.Log.{Log}
use Rattle.lc_events.proofs.Slotted.{aside_same}
use Rattle.lc_desk.proofs.Gained.{awaits_still, gained, other_node, token_still, y}

module _ (m : Setting) (s : State) (x : Numbers) (applied : ℕ → ℕ → ℕ) (waiting : ℕ → ℕ → List ℕ) where
  -- the other nodes' slots stay
  pub aside_gained : (n : ℕ) → ((other segment : ℕ) → other ≢ n → applied other segment ≡ x.applied other segment) → ((other segment : ℕ) → other ≢ n → waiting other segment ≡ x.waiting other segment) → BesideSlots m n s x s (y m s x applied waiting)
  aside_gained n same_applied same_waiting = record {
    applied = λ other segment differ. same_applied other segment differ;
    waiting = λ other segment differ. same_waiting other segment differ;
    rises = λ segment. (omega arith);
    parts = (awaits_still m s x applied waiting);
    shown = λ segment number within. refl;
    number = λ segment away. refl;
    tokens = λ segment token away. (token_still m s x applied waiting) segment token;
  }

-- the other nodes' slots do not show what a record makes of a node's
pub aside_received : (m : Setting) (n : ℕ) (s : State) (x : Numbers) (segment number : ℕ) (answer : Received) → BesideSlots m n s x s (received_numbers x n segment number answer)
aside_received m n s x segment number (Applied last) = aside_gained m s x (applied_to x n segment last).applied (applied_to x n segment last).waiting n
    (other_node x.applied n segment last) (other_node x.waiting n segment (filter (λ k. nat_lt last k) (x.waiting n segment)))
aside_received m n s x segment number HeldBack = aside_gained m s x x.applied (held_back x n segment (Some number)).waiting n
    (λ other any differ. refl) (other_node x.waiting n segment (put_number number (x.waiting n segment)))
aside_received m n s x segment number Ignored = aside_same m n s s x refl refl

-- The journals do not show it either

module _ (m : Setting) (s : State) (x : Numbers) (applied : ℕ → ℕ → ℕ) (waiting : ℕ → ℕ → List ℕ) where
  logs_gained : (n : ℕ) → BesideLogs m n s x s (gained x applied waiting)
  logs_gained n = record {
    records = λ other differ. refl;
    marks = λ other differ. refl;
    flush = λ other differ. refl;
    halted = λ other differ. refl;
    ack = λ other differ. refl;
    dropped = λ other differ. refl;
    trimmed = λ other differ. refl;
    reset = λ other differ. refl;
    round = λ other differ. refl;
  }

  log_gained : {D : Type 0} (a : Ghosts D) (n : ℕ) (log : Log D a) (kept : KeptRecords) (dropped trimmed taken acked : ℕ)
      → FitsLog a m n log kept dropped trimmed taken acked s x → FitsLog a m n log kept dropped trimmed taken acked s (gained x applied waiting)
  log_gained a n log kept dropped trimmed taken acked h = record {
    words = h.words;
    marks = h.marks;
    all_closed = h.all_closed;
    whole = h.whole;
    stands = h.stands;
    halted = h.halted;
    dropped_is = h.dropped_is;
    trimmed_is = h.trimmed_is;
    acked_is = h.acked_is;
    taken_is = h.taken_is;
    reset_is = h.reset_is;
  }

pub logs_received : (m : Setting) (n : ℕ) (s : State) (x : Numbers) (segment number : ℕ) (answer : Received) → BesideLogs m n s x s (received_numbers x n segment number answer)
logs_received m n s x segment number (Applied last) = logs_gained m s x (applied_to x n segment last).applied (applied_to x n segment last).waiting n
logs_received m n s x segment number HeldBack = logs_gained m s x x.applied (held_back x n segment (Some number)).waiting n
logs_received m n s x segment number Ignored = logs_gained m s x x.applied x.waiting n

pub log_received : {D : Type 0} (a : Ghosts D) (m : Setting) (n to : ℕ) (s : State) (x : Numbers) (segment number : ℕ) (answer : Received) (log : Log D a) (kept : KeptRecords) (dropped trimmed taken acked : ℕ)
    → FitsLog a m n log kept dropped trimmed taken acked s x → FitsLog a m n log kept dropped trimmed taken acked s (received_numbers x to segment number answer)
log_received a m n to s x segment number (Applied last) log kept dropped trimmed taken acked =
    log_gained m s x (applied_to x to segment last).applied (applied_to x to segment last).waiting a n log kept dropped trimmed taken acked
log_received a m n to s x segment number HeldBack log kept dropped trimmed taken acked =
    log_gained m s x x.applied (held_back x to segment (Some number)).waiting a n log kept dropped trimmed taken acked
log_received a m n to s x segment number Ignored log kept dropped trimmed taken acked = log_gained m s x x.applied x.waiting a n log kept dropped trimmed taken acked

-- They are those after a delivery

pub deliver_turns : (m : Setting) (s : State) (x : Numbers) (sender number segment to own : ℕ) (answer : Received) → number_of segment (slice_get (records_of m s x.disks sender) (number - 1)) ≡ Some own
    → numbers_after m s x (Deliver sender number segment to) (reply_of answer) ≡ received_numbers x to segment own answer
deliver_turns m s x sender number segment to own (Applied last) is = refl
deliver_turns m s x sender number segment to own HeldBack is = ap (held_back x to segment) is
deliver_turns m s x sender number segment to own Ignored is = refl

-- of a record that the sender has acknowledged
deliver_acked : (m : Setting) (s : State) (x : Numbers) (sender number segment to : ℕ) → 1 ≤ number → number ≤ s.ack sender
    → deliver_answer m s x sender number segment to
    ≡ (if nat_le number (x.trimmed sender) then IsIgnored else record_answer x to segment (number_of segment (slice_get (records_of m s x.disks sender) (number - 1))))
deliver_acked m s x sender number segment to first acked =
    let known : ((number == 0) || nat_lt (s.ack sender) number) ≡ false = rw (ne_eqb number 0 (λ e. omega (arith, e, first)), le-ltb (s.ack sender) number acked) refl in
    ap (λ b. if b then Refused Unknown else if nat_le number (x.trimmed sender) then IsIgnored else record_answer x to segment (number_of segment (slice_get (records_of m s x.disks sender) (number - 1)))) known

-- and still keeps
pub deliver_settled : (m : Setting) (s : State) (x : Numbers) (sender number segment to : ℕ) (own : Option ℕ) → 1 ≤ number → number ≤ s.ack sender → x.trimmed sender < number
    → number_of segment (slice_get (records_of m s x.disks sender) (number - 1)) ≡ own → deliver_answer m s x sender number segment to ≡ record_answer x to segment own
deliver_settled m s x sender number segment to own first acked keeps is =
    deliver_acked m s x sender number segment to first acked
    ∙ ap (λ b. if b then IsIgnored else record_answer x to segment (number_of segment (slice_get (records_of m s x.disks sender) (number - 1)))) (lt-leb number (x.trimmed sender) keeps)
    ∙ ap (record_answer x to segment) is

-- one that it has dropped
pub deliver_trimmed : (m : Setting) (s : State) (x : Numbers) (sender number segment to : ℕ) → 1 ≤ number → number ≤ s.ack sender → number ≤ x.trimmed sender
    → deliver_answer m s x sender number segment to ≡ IsIgnored
deliver_trimmed m s x sender number segment to first acked trimmed =
    deliver_acked m s x sender number segment to first acked
    ∙ ap (λ b. if b then IsIgnored else record_answer x to segment (number_of segment (slice_get (records_of m s x.disks sender) (number - 1)))) (le-leb number (x.trimmed sender) trimmed)

-- one that it has not acknowledged
pub deliver_unknown : (m : Setting) (s : State) (x : Numbers) (sender number segment to : ℕ) → (number ≡ 0) ⊎ (s.ack sender < number) → deliver_answer m s x sender number segment to ≡ Refused Unknown
deliver_unknown m s x sender number segment to unknown =
    ap (λ b. if b then Refused Unknown else if nat_le number (x.trimmed sender) then IsIgnored else record_answer x to segment (number_of segment (slice_get (records_of m s x.disks sender) (number - 1)))) (no_number unknown)
  where
    no_number : (number ≡ 0) ⊎ (s.ack sender < number) → ((number == 0) || nat_lt (s.ack sender) number) ≡ true
    no_number (inl zero_is) = (rw (eq-eqb number 0 zero_is) refl)
    no_number (inr more) = or_right (number == 0) (nat_lt (s.ack sender) number) (lt-ltb (s.ack sender) number more)
