-- Along a run the numbers of the segments count what recoveries have kept.
use Rattle.std.proofs.Common.{◌≡◌, ℕ, ◌+◌, ◌-◌, Bool, true, false, not, ◌==◌, List, [], ◌∷◌, ◌++◌, Option, None, Some, refl, sym, ap, subst, ◌∙◌, inl, inr}
use Rattle.std.specs.Prelude.{find, if◌then◌else◌, slice_get}
use Rattle.lc_page.specs.Page.{text_in}
use Rattle.lc_record.specs.Marks.{is_empty}
use Rattle.lc_record.specs.Recorded.{counted}
use Rattle.lc_record.specs.Transaction.{Transaction}
use Rattle.lc_record.specs.declared.geometry.Geometry.{Geometry}
use Rattle.lc_model.specs.History.{Entry, kept}
use Rattle.lc_model.specs.Machine.{RecoverRow, ReserveRow, Row, Step, closed_by}
use Rattle.lc_model.specs.Merge.{Page}
use Rattle.lc_model.specs.Merging.{counted_all}
use Rattle.lc_model.specs.Moves.{page_now, with_begun}
use Rattle.lc_model.specs.Refusals.{OfRunning, Unless, common_refusal, refuse_if}
use Rattle.lc_model.specs.State.{Phase as Condition, DownAt, Up, Setting, State, has_unclosed, is_unclosed, running_of}
use Rattle.lc_model.specs.Stored.{Disks, records_of}
use Rattle.lc_model.specs.declared.event.Event.{Event}
use Rattle.lc_model.specs.declared.event.Event.TheVariants.{Begin, SetRange, Write, Read, Abort, Reserve, Close, FlushStep, Leave, Arrive, Deliver, Trim, PageStep, ResetStep, Stop, RecoverStep}
use Rattle.lc_model.specs.declared.refusal.Refusal.{Refusal}
use Rattle.lc_model.specs.declared.refusal.Refusal.TheVariants.{DeviceFault, OutOfTurn}
use Rattle.lc_model.specs.declared.reply.Reply.{Reply}
use Rattle.lc_model.specs.declared.reply.Reply.TheVariants.{Ok as Accepted, Stepped, Applied, HeldBack, Trimmed, Written, Reset, Down, Recovered, Refused}
use Rattle.lc_model.proofs.Keeps.{match-case}
use Rattle.lc_settled.specs.Numbers.{Numbers, recovered_numbers}
use Rattle.lc_settled.specs.Runs.{RunsOn}
use Rattle.lc_settled.specs.Settled.{number_of}
use Rattle.lc_settled.specs.Turns.{IsRecovered, Turns, call_made, closed_with, held_back, kept_numbers, numbers_after, opened_with, settled_with}
use Rattle.lc_core.proofs.Recoveries.{none_common}
use Rattle.lc_journal.proofs.SameHistory.{row_same}

-- numbers with these of the segments
pub with_numbers : Geometry → (ℕ → ℕ) → Numbers
with_numbers g numbers = recovered_numbers g numbers (λ segment page. record { sequence = 0; bytes = [] }) (λ segment page. text_in [] 0)

pub with_numbers-numbers : (g : Geometry) (numbers : ℕ → ℕ) → (with_numbers g numbers).disks.numbers ≡ numbers
unfolding with_numbers
with_numbers-numbers g numbers = refl

pub with_numbers-steps : (g : Geometry) (numbers : ℕ → ℕ) → (with_numbers g numbers).steps ≡ 0
unfolding with_numbers
with_numbers-steps g numbers = refl

pub counted_all-append : (numbers : ℕ → ℕ) (us vs : List Transaction) → counted_all numbers (us ++ vs) ≡ counted_all (counted_all numbers us) vs
counted_all-append numbers [] vs = refl
counted_all-append numbers (u ∷ us) vs = counted_all-append (counted numbers u) us vs

-- What recoveries kept

same_earlier : (s made after : State) → made.earlier ≡ s.earlier → after ≡ made → after.earlier ≡ s.earlier
same_earlier s made after same is = ap (λ (v : State). v.earlier) is ∙ same

unless_earlier : (refusal : Option Refusal) (s : State) (reply : Reply) (after : State) (next : Type 0) → (next → after.earlier ≡ s.earlier) → Unless refusal s reply after next → after.earlier ≡ s.earlier
unless_earlier None s reply after next go h = go h
unless_earlier (Some refusal) s reply after next go h = same_earlier s s after refl h.1

reserve_earlier : (found : Option Transaction) (s : State) (reply : Reply) (after : State) → OfRunning found s reply after (λ t. ReserveRow s t reply after) → after.earlier ≡ s.earlier
reserve_earlier None s reply after h = same_earlier s s after refl h.1
reserve_earlier (Some t) s reply after h = match-case (after.earlier ≡ s.earlier) (is_empty t.marks) _ _
    (λ none ended. ap (λ (v : State). v.earlier) ended.1)
    (λ some row. elim row [
      | inl reserved ↦ ap (λ (v : State). v.earlier) reserved.3
      | inr refused ↦ same_earlier s s after refl refused.3
    ])
    h

module _ (m : Setting) (s : State) (after : State) where
  aside_earlier : (event : Event) (reply : Reply) → Row m s event reply after → (event ≡ RecoverStep → ⊥) → after.earlier ≡ s.earlier
  aside_earlier (Begin node thread segments reading) reply row other = (row_same m s (Begin node thread segments reading) reply after refl row).0
  aside_earlier (SetRange node thread segment offset len) reply row other = (row_same m s (SetRange node thread segment offset len) reply after refl row).0
  aside_earlier (Write node thread segment offset bytes) reply row other = (row_same m s (Write node thread segment offset bytes) reply after refl row).0
  aside_earlier (Read node thread segment offset len) reply row other = (row_same m s (Read node thread segment offset len) reply after refl row).0
  aside_earlier (Abort node thread) reply row other = (row_same m s (Abort node thread) reply after refl row).0
  aside_earlier (Reserve node thread) reply row other = reserve_earlier (running_of node thread s) s reply after row
  aside_earlier (Close node thread) reply row other =
      unless_earlier (refuse_if (not (has_unclosed node thread s)) OutOfTurn None) s reply after ((reply ≡ Accepted) × (after ≡ record s { history = closed_by node thread s.history }))
      (λ closed. ap (λ (v : State). v.earlier) closed.1) row
  aside_earlier (FlushStep node) reply row other = (row_same m s (FlushStep node) reply after refl row).0
  aside_earlier (Leave node segment) reply row other = (row_same m s (Leave node segment) reply after refl row).0
  aside_earlier (Arrive node segment) reply row other = (row_same m s (Arrive node segment) reply after refl row).0
  aside_earlier (Deliver sender number segment to) reply row other = (row_same m s (Deliver sender number segment to) reply after refl row).0
  aside_earlier (Trim node) reply row other = (row_same m s (Trim node) reply after refl row).0
  aside_earlier (PageStep node segment page) reply row other = (row_same m s (PageStep node segment page) reply after refl row).0
  aside_earlier (ResetStep node) reply row other = (row_same m s (ResetStep node) reply after refl row).0
  aside_earlier (Stop choices) reply row other = (row_same m s (Stop choices) reply after refl row).0
  aside_earlier RecoverStep reply row other = absurd (other refl)

-- Numbers

opened_numbers : (d : Disks) (segment page : ℕ) (text : Option Page) → (opened_with d segment page text).numbers ≡ d.numbers
opened_numbers d segment page None = refl
opened_numbers d segment page (Some text) = refl

settled_numbers : (d : Disks) (segment page : ℕ) (text : Option Page) → (settled_with d segment page text).numbers ≡ d.numbers
settled_numbers d segment page None = refl
settled_numbers d segment page (Some text) = refl

call_numbers : (m : Setting) (s : State) (d : Disks) (segment page calls : ℕ) → (call_made m s d segment page calls).numbers ≡ d.numbers
call_numbers m s d segment page calls = elim (calls == 1) as (λ (b : Bool). (if b then with_begun d segment page (page_now m s d segment page) else if calls == 5 then opened_with d segment page (d.begun segment page) else d).numbers ≡ d.numbers) [
  | true ↦ refl
  | false ↦ elim (calls == 5) as (λ (b : Bool). (if b then opened_with d segment page (d.begun segment page) else d).numbers ≡ d.numbers) [
    | true ↦ opened_numbers d segment page (d.begun segment page)
    | false ↦ refl
  ]
]

closed_numbers : (s : State) (x : Numbers) (node : ℕ) (e : Option Entry) → (closed_with s x node e).disks.numbers ≡ x.disks.numbers
closed_numbers s x node None = refl
closed_numbers s x node (Some e) = refl

held_numbers : (x : Numbers) (to segment : ℕ) (number : Option ℕ) → (held_back x to segment number).disks.numbers ≡ x.disks.numbers
held_numbers x to segment None = refl
held_numbers x to segment (Some number) = refl

module _ (m : Setting) (s : State) (x : Numbers) where
  abbrev Same : Event → Reply → Type 0
  Same event reply = (numbers_after m s x event reply).disks.numbers ≡ x.disks.numbers

  page_numbers : (node segment page : ℕ) (reply : Reply) → Same (PageStep node segment page) reply
  page_numbers node segment page reply = elim reply as (λ (r : Reply). Same (PageStep node segment page) r) [
    | Stepped calls ↦ call_numbers m s x.disks segment page calls
    | Written number ↦ settled_numbers x.disks segment page (x.disks.begun segment page)
    | Refused refusal ↦ elim refusal as (λ (r : Refusal). Same (PageStep node segment page) (Refused r)) [
      | DeviceFault ↦ call_numbers m s x.disks segment page (x.calls segment page + 1)
      | _ ↦ refl
    ]
    | _ ↦ refl
  ]

  same_numbers : (event : Event) (reply : Reply) → Same event reply
  same_numbers (Begin node thread segments reading) reply = refl
  same_numbers (SetRange node thread segment offset len) reply = refl
  same_numbers (Write node thread segment offset bytes) reply = refl
  same_numbers (Read node thread segment offset len) reply = refl
  same_numbers (Abort node thread) reply = refl
  same_numbers (Reserve node thread) reply = refl
  same_numbers (Close node thread) reply = elim reply as (λ (r : Reply). Same (Close node thread) r) [
    | Accepted ↦ closed_numbers s x node (find (is_unclosed node thread) s.history)
    | _ ↦ refl
  ]
  same_numbers (FlushStep node) reply = refl
  same_numbers (Leave node segment) reply = refl
  same_numbers (Arrive node segment) reply = elim reply as (λ (r : Reply). Same (Arrive node segment) r) [
    | Accepted ↦ refl
    | _ ↦ refl
  ]
  same_numbers (Deliver sender number segment to) reply = elim reply as (λ (r : Reply). Same (Deliver sender number segment to) r) [
    | Applied last ↦ refl
    | HeldBack ↦ held_numbers x to segment (number_of segment (slice_get (records_of m s x.disks sender) (number - 1)))
    | _ ↦ refl
  ]
  same_numbers (Trim node) reply = elim reply as (λ (r : Reply). Same (Trim node) r) [
    | Trimmed count ↦ refl
    | _ ↦ refl
  ]
  same_numbers (PageStep node segment page) reply = page_numbers node segment page reply
  same_numbers (ResetStep node) reply = elim reply as (λ (r : Reply). Same (ResetStep node) r) [
    | Stepped steps ↦ refl
    | Reset ↦ refl
    | _ ↦ refl
  ]
  same_numbers (Stop choices) reply = elim reply as (λ (r : Reply). Same (Stop choices) r) [
    | Down ↦ refl
    | _ ↦ refl
  ]
  same_numbers RecoverStep reply = elim reply as (λ (r : Reply). Same RecoverStep r) [
    | Stepped steps ↦ refl
    | Refused refusal ↦ refl
    | _ ↦ refl
  ]

-- A step, and a run

abbrev pub Counts : (ℕ → ℕ) → State → Numbers → Type 0
Counts numbers s x = x.disks.numbers ≡ counted_all numbers s.earlier

module _ (m : Setting) (numbers : ℕ → ℕ) (s : State) (x : Numbers) (after : State) (next : Numbers) (counts : Counts numbers s x) where
  still : (event : Event) (reply : Reply) → next ≡ numbers_after m s x event reply → after.earlier ≡ s.earlier → Counts numbers after next
  still event reply is same = ap (λ (y : Numbers). y.disks.numbers) is ∙ same_numbers m s x event reply ∙ counts ∙ ap (counted_all numbers) (sym same)

  -- a step that is no end of a recovery keeps both
  recovering : (p : Condition) (reply : Reply) → RecoverRow p m.geometry s reply after → (reply ≡ Recovered → ⊥) → after.earlier ≡ s.earlier
  recovering Up reply row other = same_earlier s s after refl row.1
  recovering (DownAt cut) reply row other = elim row [
    | inl stepped ↦ same_earlier s s after refl stepped.2
    | inr more ↦ elim more [
      | inl fault ↦ same_earlier s s after refl fault.1
      | inr done ↦ absurd (other done.0)
    ]
  ]

  -- and the end of one counts what it kept
  recovered : (p : Condition) → s.phase ≡ p → RecoverRow p m.geometry s Recovered after → IsRecovered m s x next → Counts numbers after next
  recovered Up is row turns = absurd (let no = row.0 in cc)
  recovered (DownAt cut) is row turns = elim row [
    | inl stepped ↦ absurd (let no = stepped.1 in cc)
    | inr more ↦ elim more [
      | inl fault ↦ absurd (let no = fault.0 in cc)
      | inr done ↦
          ap (λ (y : Numbers). y.disks.numbers) turns.3 ∙ ap (λ (q : Condition). kept_numbers q s x) is ∙ ap (λ (n : ℕ → ℕ). counted_all n (kept s.history cut)) counts
          ∙ sym (counted_all-append numbers s.earlier (kept s.history cut)) ∙ ap (λ (v : State). counted_all numbers v.earlier) (sym done.1)
    ]
  ]

  recover_row : (reply : Reply) → Step m s RecoverStep reply after → RecoverRow s.phase m.geometry s reply after
  recover_row reply step = subst (λ (c : Option Refusal). Unless c s reply after (Row m s RecoverStep reply after)) (none_common m s) step

  recover_counts : (reply : Reply) → Step m s RecoverStep reply after → Turns m s x RecoverStep reply next → Counts numbers after next
  recover_counts reply = elim reply as (λ (r : Reply). Step m s RecoverStep r after → Turns m s x RecoverStep r next → Counts numbers after next) [
    | Recovered ↦ λ step turns. recovered s.phase refl (recover_row Recovered step) turns
    | Stepped steps ↦ λ step turns. still RecoverStep (Stepped steps) turns (recovering s.phase (Stepped steps) (recover_row (Stepped steps) step) (λ no. absurd cc))
    | Refused refusal ↦ λ step turns. still RecoverStep (Refused refusal) turns (recovering s.phase (Refused refusal) (recover_row (Refused refusal) step) (λ no. absurd cc))
    | r ↦ λ step turns. still RecoverStep r turns (recovering s.phase r (recover_row r step) (λ no. absurd cc))
  ]

  step_counts : (event : Event) (reply : Reply) → Step m s event reply after → Turns m s x event reply next → Counts numbers after next
  step_counts event reply = elim event as (λ (e : Event). Step m s e reply after → Turns m s x e reply next → Counts numbers after next) [
    | RecoverStep ↦ recover_counts reply
    | e ↦ λ step turns. still e reply turns (unless_earlier (common_refusal m.geometry s e) s reply after _ (λ row. aside_earlier m s after e reply row (λ no. absurd cc)) step)
  ]

pub run_counts : (m : Setting) (numbers : ℕ → ℕ) (s : State) (x : Numbers) (events : List Event) (replies : List Reply) (after : State) (next : Numbers)
    → Counts numbers s x → RunsOn m s x events replies after next → Counts numbers after next
run_counts m numbers s x [] [] after next counts run = ap (λ (y : Numbers). y.disks.numbers) run.1 ∙ counts ∙ ap (λ (v : State). counted_all numbers v.earlier) (sym run.0)
run_counts m numbers s x [] (reply ∷ replies) after next counts run = absurd run
run_counts m numbers s x (event ∷ events) [] after next counts run = absurd run
run_counts m numbers s x (event ∷ events) (reply ∷ replies) after next counts run =
    run_counts m numbers run.0 run.1 events replies after next (step_counts m numbers s x run.0 run.1 counts event reply run.2 run.4) run.5
