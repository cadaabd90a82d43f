-- A halted node stays halted, and its tokens stay with it.
use Rattle.std.proofs.Common.{◌≡◌, ℕ, ◌+◌, Bool, true, false, not, ◌==◌, nat_lt, Option, Some, None, refl, sym, ap, subst, ◌∙◌, inl, inr, true≢false, eqb-true}
use Rattle.std.specs.Prelude.{if◌then◌else◌}
use Rattle.lc_record.specs.Marks.{is_empty, marked, written}
use Rattle.lc_record.specs.Transaction.{Transaction}
use Rattle.lc_model.specs.History.{front}
use Rattle.lc_model.specs.Machine.{FlushRow, LeaveRow, ArriveRow, Moves, OrHalts, RecoverRow, ReserveRow, Row, Step, StopRow, acknowledged, appended, begun, changed, closed_by, dropped, flushed_to, halting, may_page, may_reset, placed}
use Rattle.lc_model.specs.Refusals.{OfRunning, Unless, begin_refusal, common_refusal, is_at, leave_refusal, read_refusal, refuse_if, set_range_refusal, write_refusal}
use Rattle.lc_model.specs.State.{Place, At, Travelling, Phase, Up, DownAt, Setting, State, has_unclosed, is_held, running_of}
use Rattle.lc_model.specs.declared.event.Event.{Event}
use Rattle.lc_model.specs.declared.event.Event.TheVariants.{Begin, SetRange, Write, Read, Abort, Reserve, Close, FlushStep, Leave, Arrive, Deliver, Trim, PageStep, ResetStep, Stop, RecoverStep}
use Rattle.lc_model.specs.declared.refusal.Refusal.{Refusal}
use Rattle.lc_model.specs.declared.refusal.Refusal.TheVariants.{Held, NotHere, OutOfTurn}
use Rattle.lc_model.specs.declared.reply.Reply.{Reply}
use Rattle.lc_model.proofs.Holders.{at_is, not_refused}
use Rattle.lc_model.proofs.Keeps.{match-case}
use Rattle.lc_model.proofs.Rows.{not_halted}

module _ (m : Setting) (s : State) (reply : Reply) (after : State) where
  -- what is halted in s is so here, and has the same tokens
  abbrev Stays : State → Type 0
  Stays v = ((node : ℕ) → s.halted node ≡ true → v.halted node ≡ true) × ((node segment : ℕ) → s.halted node ≡ true → s.place segment ≡ At node → v.place segment ≡ At node)

  same : Stays s
  same = (λ node halted. halted, λ node segment halted here. here)

  halts : (key : ℕ) → Stays (halting s key)
  halts key = (
    λ node halted. elim (node == key) as (λ b. (if b then true else s.halted node) ≡ true) [
      | true ↦ refl
      | false ↦ halted
    ],
    λ node segment halted here. here,
  )

  -- a place that changes is of no halted node
  moves_to : (segment : ℕ) (place : Place) → ((node : ℕ) → s.halted node ≡ true → s.place segment ≡ At node → ⊥) → Stays (placed s segment place)
  moves_to segment place free = (
    λ node halted. halted,
    λ node other halted here. elim (other == segment) as (λ b. (other == segment) ≡ b → (if b then place else s.place other) ≡ At node) [
      | true ↦ λ is. absurd (free node halted (ap s.place (sym (eqb-true other segment is)) ∙ here))
      | false ↦ λ is. here
    ] refl,
  )

  now : (other : State) → Stays other → after ≡ other → Stays after
  now other stays is = subst Stays (sym is) stays

  unless_stays : (refusal : Option Refusal) (next : Type 0) → (refusal ≡ None → next → Stays after) → Unless refusal s reply after next → Stays after
  unless_stays None next go h = go refl h
  unless_stays (Some refusal) next go h = now s same h.1

  running_stays : (found : Option Transaction) (next : Transaction → Type 0) → ((t : Transaction) → next t → Stays after) → OfRunning found s reply after next → Stays after
  running_stays None next go h = now s same h.1
  running_stays (Some t) next go h = go t h

  reserve_stays : (t : Transaction) → ReserveRow s t reply after → Stays after
  reserve_stays t row =
      match-case (Stays after) (is_empty t.marks) _ _
      (λ nothing ended. now (dropped s t.node t.thread) same ended.1)
      (λ some rest. elim rest [
        | inl reserved ↦ now (appended s t) same reserved.3
        | inr refused ↦ now s same refused.3
      ])
      row

  calls_stay : (node steps taken : ℕ) → Moves s node steps taken reply after → Stays after
  calls_stay node steps taken row = elim row [
    | inl stepped ↦ now (flushed_to s node steps taken) same stepped.1
    | inr fault ↦ now (halting (flushed_to s node steps taken) node) (halts node) fault.1
  ]

  flush_stays : (node steps taken : ℕ) → FlushRow s node steps taken reply after → Stays after
  flush_stays node steps taken row =
      match-case (Stays after) (steps == 0) _ _
      (λ none h. match-case (Stays after) (front node s.history == s.ack node) _ _
      (λ is nothing. now s same nothing.1)
      (λ more calls. calls_stay node 1 (front node s.history) calls)
      h)
      (λ under_way h. match-case (Stays after) (nat_lt steps 3) _ _
      (λ less calls. calls_stay node (steps + 1) taken calls)
      (λ last ends. elim ends [
        | inl acked ↦ now (acknowledged s node taken) same acked.1
        | inr fault ↦ now (halting (flushed_to s node 4 taken) node) (halts node) fault.1
      ])
      h)
      row

  leave_stays : (node segment : ℕ) → s.halted node ≡ false → s.place segment ≡ At node → LeaveRow s node segment reply after → Stays after
  leave_stays node segment runs is row = elim row [
    | inl leaves ↦ now (placed s segment Travelling) (moves_to segment Travelling other) leaves.2
    | inr stays ↦ elim stays [
      | inl unflushed ↦ now s same unflushed.2
      | inr writing ↦ now s same writing.1
    ]
  ]
    where
      other : (n : ℕ) → s.halted n ≡ true → s.place segment ≡ At n → ⊥
      other n halted here =
          let both : At node ≡ At n = sym is ∙ here in
          let own : node ≡ n = cc in
          true≢false (sym halted ∙ ap s.halted (sym own) ∙ runs)

  arrive_stays : (place : Place) (node segment : ℕ) → s.place segment ≡ place → ArriveRow place s node segment reply after → Stays after
  arrive_stays (At other) node segment is row = now s same row.1
  arrive_stays Travelling node segment is row = elim row [
    | inl arrives ↦ now (placed s segment (At node)) (moves_to segment (At node) (λ n halted here. (let no : Travelling ≡ At n = sym is ∙ here in absurd cc))) arrives.1
    | inr behind ↦ now s same behind.3
  ]

  or_halts : (may : Reply → Bool) (node : ℕ) → OrHalts may s node reply after → Stays after
  or_halts may node row = elim row [
    | inl outside ↦ now s same outside.1
    | inr fault ↦ now (halting s node) (halts node) fault.1
  ]

  stop_stays : (phase : Phase) → StopRow phase m.geometry s reply after → Stays after
  stop_stays Up row = now (record s { phase = DownAt row.0 }) same row.3
  stop_stays (DownAt cut) row = now s same row.1

  recover_stays : (phase : Phase) → phase ≡ Up → RecoverRow phase m.geometry s reply after → Stays after
  recover_stays Up up row = now s same row.1
  recover_stays (DownAt cut) up row = absurd cc

  row_stays : (event : Event) → s.phase ≡ Up → common_refusal m.geometry s event ≡ None → Row m s event reply after → Stays after
  row_stays (Begin node thread segments reading) up free row =
      unless_stays (begin_refusal m.geometry s node thread segments reading) _ (λ none h. now (begun m.geometry s node thread segments reading) same h.1) row
  row_stays (SetRange node thread segment offset len) up free row =
      running_stays (running_of node thread s) _
      (λ t. unless_stays (set_range_refusal m.geometry t segment offset len) _ (λ none h. now (changed s (marked t segment offset len)) same h.1)) row
  row_stays (Write node thread segment offset bytes) up free row =
      running_stays (running_of node thread s) _
      (λ t. unless_stays (write_refusal m.geometry t segment offset bytes) _ (λ none h. now (changed s (written t segment offset bytes)) same h.1)) row
  row_stays (Read node thread segment offset len) up free row =
      running_stays (running_of node thread s) _
      (λ t. unless_stays (read_refusal m.geometry t segment offset len) _ (λ none h. now s same h.1)) row
  row_stays (Abort node thread) up free row =
      running_stays (running_of node thread s) _ (λ t h. now (dropped s node thread) same h.1) row
  row_stays (Reserve node thread) up free row = running_stays (running_of node thread s) _ reserve_stays row
  row_stays (Close node thread) up free row =
      unless_stays (refuse_if (not (has_unclosed node thread s)) OutOfTurn None) _ (λ none h. now (record s { history = closed_by node thread s.history }) same h.1) row
  row_stays (FlushStep node) up free row = flush_stays node (s.flush node).steps (s.flush node).taken row
  row_stays (Leave node segment) up free row =
      unless_stays (leave_refusal s node segment) _
      (λ none. (
      let tests = not_refused (is_at node (s.place segment)) (is_held segment s) (NotHere segment) Held None none in
      leave_stays node segment (not_halted m.geometry s (Leave node segment) free) (at_is node (s.place segment) tests.0)
      ))
      row
  row_stays (Arrive node segment) up free row = arrive_stays (s.place segment) node segment refl row
  row_stays (Deliver sender number segment to) up free row = now s same row.1
  row_stays (Trim node) up free row = now s same row.1
  row_stays (PageStep node segment page) up free row = or_halts may_page node row
  row_stays (ResetStep node) up free row = or_halts may_reset node row
  row_stays (Stop choices) up free row = stop_stays s.phase row
  row_stays RecoverStep up free row = recover_stays s.phase up row

  step_stays : (event : Event) → s.phase ≡ Up → Step m s event reply after → Stays after
  step_stays event up step = unless_stays (common_refusal m.geometry s event) _ (λ free. row_stays event up free) step

-- a halted node stays halted while the store is up
pub halted_stays : (m : Setting) (s : State) (event : Event) (reply : Reply) (after : State) → s.phase ≡ Up → after.phase ≡ Up → Step m s event reply after
    → (node : ℕ) → s.halted node ≡ true → after.halted node ≡ true
halted_stays m s event reply after up still step = (step_stays m s reply after event up step).0

-- and its tokens stay where they are
pub place_stays : (m : Setting) (s : State) (event : Event) (reply : Reply) (after : State) → s.phase ≡ Up → after.phase ≡ Up → Step m s event reply after
    → (node segment : ℕ) → s.halted node ≡ true → s.place segment ≡ At node → after.place segment ≡ At node
place_stays m s event reply after up still step = (step_stays m s reply after event up step).1
