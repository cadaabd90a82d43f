-- Of state and numbers: what it is that a node's transactions follow the machine.
use Rattle.std.specs.Prelude.{◌≡◌, ℕ}
use Rattle.lc_model.specs.State.{State, running_of}

-- nothing but the open transactions of a node has changed
pub record SameButOpen (node : ℕ) (old new : State) : Type 0 where
  pub earlier : new.earlier ≡ old.earlier
  pub history : new.history ≡ old.history
  pub place : new.place ≡ old.place
  pub phase : new.phase ≡ old.phase
  pub ack : new.ack ≡ old.ack
  pub halted : new.halted ≡ old.halted
  pub flush : new.flush ≡ old.flush
  pub running : (other thread : ℕ) → (other ≡ node → ⊥) → running_of other thread new ≡ running_of other thread old
