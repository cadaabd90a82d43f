-- Of a journal: what the other nodes need to know of a step of one node.
use Rattle.std.specs.Prelude.{◌≡◌, ℕ, map}
use Rattle.lc_model.specs.History.{entries_of}
use Rattle.lc_model.specs.State.{Setting, State}
use Rattle.lc_model.specs.Stored.{records_of}
use Rattle.lc_settled.specs.Numbers.{Numbers}

-- of each other node: its records, which of them are closed, its flush and what it has acknowledged, what was dropped of its
-- records, its reset and its round
pub record BesideLogs (m : Setting) (node : ℕ) (old : State) (x : Numbers) (new : State) (y : Numbers) : Type 0 where
  pub records : (other : ℕ) → (other ≡ node → ⊥) → records_of m new y.disks other ≡ records_of m old x.disks other
  pub marks : (other : ℕ) → (other ≡ node → ⊥) → map (λ e. e.closed) (entries_of other new.history) ≡ map (λ e. e.closed) (entries_of other old.history)
  pub flush : (other : ℕ) → (other ≡ node → ⊥) → new.flush other ≡ old.flush other
  pub halted : (other : ℕ) → (other ≡ node → ⊥) → new.halted other ≡ old.halted other
  pub ack : (other : ℕ) → (other ≡ node → ⊥) → new.ack other ≡ old.ack other
  pub dropped : (other : ℕ) → (other ≡ node → ⊥) → y.disks.dropped other ≡ x.disks.dropped other
  pub trimmed : (other : ℕ) → (other ≡ node → ⊥) → y.trimmed other ≡ x.trimmed other
  pub reset : (other : ℕ) → (other ≡ node → ⊥) → y.reset other ≡ x.reset other
  pub round : (other : ℕ) → (other ≡ node → ⊥) → y.round other ≡ x.round other
