-- What a thread is shown of a segment, and why it is not.
use Rattle.std.proofs.Common.{◌≡◌, ℕ, ◌+◌, ◌<◌, ◌≤◌, List, length, take, drop, None, inl, inr, refl, arith}
use Rattle.std.specs.Prelude.{Result, Ok, Err}
use Rattle.std.proofs.lemmas.Bool.{cases_lt}
use Rattle.lc_model.specs.History.{value}
use Rattle.lc_model.specs.Machine.{Row}
use Rattle.lc_model.specs.State.{Setting, State}
use Rattle.lc_model.specs.declared.event.Event.TheVariants.{Read}
use Rattle.lc_model.specs.declared.refusal.Refusal.TheVariants.{NotLocked, OutOfSegment}
use Rattle.lc_model.specs.declared.reply.Reply.TheVariants.{Bytes, Refused}
use Rattle.lc_tx.specs.Images.{bytes_of}
use Rattle.lc_tx.specs.Tx.{Holds, RunsOn}
use Rattle.lc_tx.specs.declared.tx.Tx.{Tx}
use Rattle.lc_tx.specs.declared.tx_fault.TxFault.{TxFault}
use Rattle.lc_tx.specs.declared.tx_fault.TxFault.TheVariants.{OutOfSegment as IsOutside, NotLocked as IsNotLocked}
use Rattle.lc_desk.specs.Desk.{IsOpen, FitsDesk}
use Rattle.lc_desk.specs.Here.{the_images}
use Rattle.lc_desk.specs.Seat.{Seat}
use Rattle.lc_desk.specs.declared.here.Here.{Here}
use Rattle.lc_desk.proofs.Seen.{read_done, read_fault}

module _ (m : Setting) (node i : ℕ) (here : Here) (seats : List Seat) (s : State) (h : FitsDesk m node here seats s) (tx : Tx)
    (one : IsOpen here node i tx (value m.start s.earlier s.history) s) (runs : RunsOn the_images here tx) (n offset len : ℕ) where
  pub not_held : (Holds tx n → ⊥) → Row m s (Read node i n offset len) (Refused NotLocked) s
  not_held other =
      let r : Result (Unit {0}) TxFault = Err IsNotLocked in
      read_fault m node i here seats s h tx one runs n offset len r IsNotLocked NotLocked
      (record { not_locked = (λ e. other, λ o. refl); outside = (λ e. absurd cc, λ both. absurd (other both.0)) }) refl refl refl

  pub too_far : Holds tx n → (offset + len ≤ length (bytes_of the_images here n) → ⊥) → Row m s (Read node i n offset len) (Refused (OutOfSegment None)) s
  too_far held far =
      let r : Result (Unit {0}) TxFault = Err IsOutside in
      let past : length (bytes_of the_images here n) < offset + len = elim (cases_lt (length (bytes_of the_images here n)) (offset + len)) [
        | inl past ↦ past
        | inr fits ↦ absurd (far fits)
      ] in
      read_fault m node i here seats s h tx one runs n offset len r IsOutside (OutOfSegment None)
      (record { not_locked = (λ e. absurd cc, λ other. absurd (other held)); outside = (λ e. (held, past), λ both. refl) }) refl refl refl

  pub shown : Holds tx n → offset + len ≤ length (bytes_of the_images here n) → (got : List ℕ) → got ≡ take len (drop offset (bytes_of the_images here n))
      → Row m s (Read node i n offset len) (Bytes got) s
  shown held fits got are =
      let r : Result (Unit {0}) TxFault = Ok tt in
      read_done m node i here seats s h tx one runs n offset len r tt got
      (record { not_locked = (λ e. absurd cc, λ other. absurd (other held)); outside = (λ e. absurd cc, λ both. absurd (omega (arith, both.1, fits))) }) refl are
