-- The store's own events, which leave the open transactions and the value of the history.
use Rattle.std.proofs.Common.{◌≡◌, ℕ, ◌+◌, Bool, not, ◌==◌, nat_lt, None, refl, sym, subst, inl, inr}
use Rattle.lc_model.specs.History.{front, value}
use Rattle.lc_model.specs.Machine.{Step, Row, FlushRow, Moves, LeaveRow, ArriveRow, OrHalts, may_page, may_reset, closed_by, flushed_to, halting, acknowledged, placed}
use Rattle.lc_model.specs.Refusals.{common_refusal, leave_refusal, refuse_if}
use Rattle.lc_model.specs.State.{Place, At, Travelling, State, Setting, has_unclosed}
use Rattle.lc_model.specs.declared.event.Event.{Event}
use Rattle.lc_model.specs.declared.event.Event.TheVariants.{Begin, SetRange, Write, Read, Abort, Reserve, Close, FlushStep, Leave, Arrive, Deliver, Trim, PageStep, ResetStep, Stop, RecoverStep}
use Rattle.lc_model.specs.declared.refusal.Refusal.TheVariants.{OutOfTurn}
use Rattle.lc_model.specs.declared.reply.Reply.{Reply}
use Rattle.lc_model.proofs.Keeps.{match-case}
use Rattle.lc_model.proofs.Seats.{value-closed}
use Rattle.lc_changes.proofs.Alone.{unless}

-- an event of the store itself: no transaction begins by it
abbrev pub IsQuiet : Event → Type 0
IsQuiet (Close node thread) = Unit {0}
IsQuiet (FlushStep node) = Unit {0}
IsQuiet (Leave node segment) = Unit {0}
IsQuiet (Arrive node segment) = Unit {0}
IsQuiet (Deliver sender number segment to) = Unit {0}
IsQuiet (Trim node) = Unit {0}
IsQuiet (PageStep node segment page) = Unit {0}
IsQuiet (ResetStep node) = Unit {0}
IsQuiet event = ⊥

-- the same transactions are open, and the value is the same
pub record Leaves (m : Setting) (s new : State) : Type 0 where
  pub running : new.running ≡ s.running
  pub valued : value m.start new.earlier new.history ≡ value m.start s.earlier s.history

module _ (m : Setting) (s : State) where
  made : (new x : State) → x.running ≡ s.running → value m.start x.earlier x.history ≡ value m.start s.earlier s.history → new ≡ x → Leaves m s new
  made new x running valued is = subst (λ (y : State). Leaves m s y) (sym is) (record { running = running; valued = valued })

  still : (new : State) → new ≡ s → Leaves m s new
  still new is = made new s refl refl is

  moves : (n steps count : ℕ) (reply : Reply) (new : State) → Moves s n steps count reply new → Leaves m s new
  moves n steps count reply new row = elim row [
    | inl goes ↦ made new (flushed_to s n steps count) refl refl goes.1
    | inr fault ↦ made new (halting (flushed_to s n steps count) n) refl refl fault.1
  ]

  flushes : (n steps taken : ℕ) (reply : Reply) (new : State) → FlushRow s n steps taken reply new → Leaves m s new
  flushes n steps taken reply new row =
      match-case (Leaves m s new) (steps == 0) _ _
      (λ none h. match-case (Leaves m s new) (front n s.history == s.ack n) _ _ (λ nothing stay. still new stay.1) (λ more go. moves n 1 (front n s.history) reply new go) h)
      (λ some h. match-case (Leaves m s new) (nat_lt steps 3) _ _ (λ less go. moves n (steps + 1) taken reply new go)
      (λ last ends. elim ends [
        | inl acked ↦ made new (acknowledged s n taken) refl refl acked.1
        | inr fault ↦ made new (halting (flushed_to s n 4 taken) n) refl refl fault.1
      ]) h)
      row

  goes : (n segment : ℕ) (reply : Reply) (new : State) → LeaveRow s n segment reply new → Leaves m s new
  goes n segment reply new row = elim row [
    | inl gone ↦ made new (placed s segment Travelling) refl refl gone.2
    | inr stay ↦ elim stay [ inl unflushed ↦ still new unflushed.2 | inr writing ↦ still new writing.1 ]
  ]

  arrives : (place : Place) (n segment : ℕ) (reply : Reply) (new : State) → ArriveRow place s n segment reply new → Leaves m s new
  arrives (At there) n segment reply new row = still new row.1
  arrives Travelling n segment reply new row = elim row [ inl comes ↦ made new (placed s segment (At n)) refl refl comes.1 | inr behind ↦ still new behind.3 ]

  or_halts : (may : Reply → Bool) (n : ℕ) (reply : Reply) (new : State) → OrHalts may s n reply new → Leaves m s new
  or_halts may n reply new row = elim row [ inl stay ↦ still new stay.1 | inr fault ↦ made new (halting s n) refl refl fault.1 ]

  row-leaves : (new : State) (event : Event) (reply : Reply) → IsQuiet event → Row m s event reply new → Leaves m s new
  row-leaves new (Begin n k segments reading) reply quiet row = absurd quiet
  row-leaves new (SetRange n k segment offset len) reply quiet row = absurd quiet
  row-leaves new (Write n k segment offset bytes) reply quiet row = absurd quiet
  row-leaves new (Read n k segment offset len) reply quiet row = absurd quiet
  row-leaves new (Abort n k) reply quiet row = absurd quiet
  row-leaves new (Reserve n k) reply quiet row = absurd quiet
  row-leaves new (Close n k) reply quiet row =
      unless (Leaves m s new) (refuse_if (not (has_unclosed n k s)) OutOfTurn None) s reply new _ (still new)
      (λ none h. made new (record s { history = closed_by n k s.history }) refl (value-closed m.start s.earlier n k s.history) h.1) row
  row-leaves new (FlushStep n) reply quiet row = flushes n (s.flush n).steps (s.flush n).taken reply new row
  row-leaves new (Leave n segment) reply quiet row = unless (Leaves m s new) (leave_refusal s n segment) s reply new _ (still new) (λ free h. goes n segment reply new h) row
  row-leaves new (Arrive n segment) reply quiet row = arrives (s.place segment) n segment reply new row
  row-leaves new (Deliver sender number segment to) reply quiet row = still new row.1
  row-leaves new (Trim n) reply quiet row = still new row.1
  row-leaves new (PageStep n segment page) reply quiet row = or_halts may_page n reply new row
  row-leaves new (ResetStep n) reply quiet row = or_halts may_reset n reply new row
  row-leaves new (Stop choices) reply quiet row = absurd quiet
  row-leaves new RecoverStep reply quiet row = absurd quiet

  pub step-leaves : (new : State) (event : Event) (reply : Reply) → IsQuiet event → Step m s event reply new → Leaves m s new
  step-leaves new event reply quiet step = unless (Leaves m s new) (common_refusal m.geometry s event) s reply new (Row m s event reply new) (still new) (λ none row. row-leaves new event reply quiet row) step
