-- The rows that leave the history as it is.
use Rattle.std.proofs.Common.{◌≡◌, ℕ, ◌+◌, Bool, true, false, ◌==◌, nat_lt, Option, Some, None, refl, sym, subst, inl, inr}
use Rattle.lc_record.specs.Marks.{marked, written}
use Rattle.lc_record.specs.Transaction.{Transaction}
use Rattle.lc_model.specs.History.{front}
use Rattle.lc_model.specs.Machine.{FlushRow, LeaveRow, ArriveRow, Moves, OrHalts, Row, StopRow, acknowledged, begun, changed, dropped, flushed_to, halting, may_page, may_reset, placed}
use Rattle.lc_model.specs.Refusals.{OfRunning, Unless, begin_refusal, leave_refusal, read_refusal, set_range_refusal, write_refusal}
use Rattle.lc_model.specs.State.{Place, At, Travelling, Phase, Up, DownAt, Setting, State, running_of}
use Rattle.lc_model.specs.declared.event.Event.{Event}
use Rattle.lc_model.specs.declared.event.Event.TheVariants.{Begin, SetRange, Write, Read, Abort, Reserve, Close, FlushStep, Leave, Arrive, Deliver, Trim, PageStep, ResetStep, Stop, RecoverStep}
use Rattle.lc_model.specs.declared.refusal.Refusal.{Refusal}
use Rattle.lc_model.specs.declared.reply.Reply.{Reply}
use Rattle.lc_model.proofs.Keeps.{match-case}

abbrev pub IsSameHistory : State → State → Type 0
IsSameHistory s after = (after.earlier ≡ s.earlier) × (after.history ≡ s.history)

pub same_as : (s other after : State) → IsSameHistory s other → after ≡ other → IsSameHistory s after
same_as s other after same is = subst (λ (v : State). IsSameHistory s v) (sym is) same

pub unless_same : (refusal : Option Refusal) (s : State) (reply : Reply) (after : State) (next : Type 0) → (next → IsSameHistory s after) → Unless refusal s reply after next → IsSameHistory s after
unless_same None s reply after next go h = go h
unless_same (Some refusal) s reply after next go h = same_as s s after (refl, refl) h.1

running_same : (found : Option Transaction) (s : State) (reply : Reply) (after : State) (next : Transaction → Type 0) → ((t : Transaction) → next t → IsSameHistory s after) → OfRunning found s reply after next → IsSameHistory s after
running_same None s reply after next go h = same_as s s after (refl, refl) h.1
running_same (Some t) s reply after next go h = go t h

moves_same : (s : State) (node steps taken : ℕ) (reply : Reply) (after : State) → Moves s node steps taken reply after → IsSameHistory s after
moves_same s node steps taken reply after row = elim row [
  | inl stepped ↦ same_as s (flushed_to s node steps taken) after (refl, refl) stepped.1
  | inr fault ↦ same_as s (halting (flushed_to s node steps taken) node) after (refl, refl) fault.1
]

flush_same : (s : State) (node steps taken : ℕ) (reply : Reply) (after : State) → FlushRow s node steps taken reply after → IsSameHistory s after
flush_same s node steps taken reply after row =
    match-case (IsSameHistory s after) (steps == 0) _ _
    (λ none h. match-case (IsSameHistory s after) (front node s.history == s.ack node) _ _
    (λ is nothing. same_as s s after (refl, refl) nothing.1)
    (λ more moves. moves_same s node 1 (front node s.history) reply after moves)
    h)
    (λ under_way h. match-case (IsSameHistory s after) (nat_lt steps 3) _ _
    (λ less moves. moves_same s node (steps + 1) taken reply after moves)
    (λ last ends. elim ends [
      | inl acked ↦ same_as s (acknowledged s node taken) after (refl, refl) acked.1
      | inr fault ↦ same_as s (halting (flushed_to s node 4 taken) node) after (refl, refl) fault.1
    ])
    h)
    row

leave_same : (s : State) (node segment : ℕ) (reply : Reply) (after : State) → LeaveRow s node segment reply after → IsSameHistory s after
leave_same s node segment reply after row = elim row [
  | inl leaves ↦ same_as s (placed s segment Travelling) after (refl, refl) leaves.2
  | inr stays ↦ elim stays [
    | inl unflushed ↦ same_as s s after (refl, refl) unflushed.2
    | inr writing ↦ same_as s s after (refl, refl) writing.1
  ]
]

arrive_same : (place : Place) (s : State) (node segment : ℕ) (reply : Reply) (after : State) → ArriveRow place s node segment reply after → IsSameHistory s after
arrive_same (At other) s node segment reply after row = same_as s s after (refl, refl) row.1
arrive_same Travelling s node segment reply after row = elim row [
  | inl arrives ↦ same_as s (placed s segment (At node)) after (refl, refl) arrives.1
  | inr behind ↦ same_as s s after (refl, refl) behind.3
]

halts_same : (may : Reply → Bool) (s : State) (node : ℕ) (reply : Reply) (after : State) → OrHalts may s node reply after → IsSameHistory s after
halts_same may s node reply after row = elim row [
  | inl outside ↦ same_as s s after (refl, refl) outside.1
  | inr fault ↦ same_as s (halting s node) after (refl, refl) fault.1
]

stop_same : (m : Setting) (phase : Phase) (s : State) (reply : Reply) (after : State) → StopRow phase m.geometry s reply after → IsSameHistory s after
stop_same m Up s reply after row = same_as s (record s { phase = DownAt row.0 }) after (refl, refl) row.3
stop_same m (DownAt cut) s reply after row = same_as s s after (refl, refl) row.1

-- neither a reservation nor its close, nor a recovery
abbrev pub is_aside : Event → Bool
is_aside (Reserve node thread) = false
is_aside (Close node thread) = false
is_aside RecoverStep = false
is_aside event = true

pub row_same : (m : Setting) (s : State) (event : Event) (reply : Reply) (after : State) → is_aside event ≡ true → Row m s event reply after → IsSameHistory s after
row_same m s (Begin node thread segments reading) reply after aside row =
    unless_same (begin_refusal m.geometry s node thread segments reading) s reply after _ (λ h. same_as s (begun m.geometry s node thread segments reading) after (refl, refl) h.1) row
row_same m s (SetRange node thread segment offset len) reply after aside row =
    running_same (running_of node thread s) s reply after _
    (λ t. unless_same (set_range_refusal m.geometry t segment offset len) s reply after _ (λ h. same_as s (changed s (marked t segment offset len)) after (refl, refl) h.1)) row
row_same m s (Write node thread segment offset bytes) reply after aside row =
    running_same (running_of node thread s) s reply after _
    (λ t. unless_same (write_refusal m.geometry t segment offset bytes) s reply after _ (λ h. same_as s (changed s (written t segment offset bytes)) after (refl, refl) h.1)) row
row_same m s (Read node thread segment offset len) reply after aside row =
    running_same (running_of node thread s) s reply after _
    (λ t. unless_same (read_refusal m.geometry t segment offset len) s reply after _ (λ h. same_as s s after (refl, refl) h.1)) row
row_same m s (Abort node thread) reply after aside row =
    running_same (running_of node thread s) s reply after _ (λ t h. same_as s (dropped s node thread) after (refl, refl) h.1) row
row_same m s (Reserve node thread) reply after aside row = absurd cc
row_same m s (Close node thread) reply after aside row = absurd cc
row_same m s (FlushStep node) reply after aside row = flush_same s node (s.flush node).steps (s.flush node).taken reply after row
row_same m s (Leave node segment) reply after aside row =
    unless_same (leave_refusal s node segment) s reply after _ (leave_same s node segment reply after) row
row_same m s (Arrive node segment) reply after aside row = arrive_same (s.place segment) s node segment reply after row
row_same m s (Deliver sender number segment to) reply after aside row = same_as s s after (refl, refl) row.1
row_same m s (Trim node) reply after aside row = same_as s s after (refl, refl) row.1
row_same m s (PageStep node segment page) reply after aside row = halts_same may_page s node reply after row
row_same m s (ResetStep node) reply after aside row = halts_same may_reset s node reply after row
row_same m s (Stop choices) reply after aside row = stop_same m s.phase s reply after row
row_same m s RecoverStep reply after aside row = absurd cc
