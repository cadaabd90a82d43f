-- Of state and numbers: what it is that the log of a node follows the machine.
use Rattle.std.specs.Prelude.{◌≡◌, ℕ}
use Rattle.lc_model.specs.State.{State}

-- nothing but a node's flush, what it has acknowledged and whether it is halted has changed
pub record SameButLog (node : ℕ) (old new : State) : Type 0 where
  pub earlier : new.earlier ≡ old.earlier
  pub history : new.history ≡ old.history
  pub running : new.running ≡ old.running
  pub place : new.place ≡ old.place
  pub phase : new.phase ≡ old.phase
  pub ack : (other : ℕ) → (other ≡ node → ⊥) → new.ack other ≡ old.ack other
  pub halted : (other : ℕ) → (other ≡ node → ⊥) → new.halted other ≡ old.halted other
  pub flush : (other : ℕ) → (other ≡ node → ⊥) → new.flush other ≡ old.flush other
