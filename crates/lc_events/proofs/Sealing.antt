-- Of nodes that run: a reset of a node's log.
use Rattle.std.proofs.Common.{◌≡◌, ℕ, false, refl}
use Rattle.std.specs.Prelude.{nat_lt}
use Rattle.lc_disk.specs.declared.area.Area.{Ghosts}
use Rattle.lc_journal.specs.declared.log.Log.{Log}
use Rattle.lc_journal.specs.declared.log.Log.TheVariants.{Idle, Written, Synced, Opened, Sealed, Closing, Emptied, Failed, Torn, Taken}
use Rattle.lc_journal.specs.Log.{HasReset, is_failed, is_sealed}

module _ {D : Type 0} (a : Ghosts D) where
  -- it is sealed just while a reset is under way
  pub sealed_is : (log : Log D a) (steps : ℕ) → HasReset a log steps → is_failed a log ≡ false → is_sealed a log ≡ nat_lt 0 steps
  sealed_is (Idle log) steps at up = rw at refl
  sealed_is (Written log) steps at up = rw at refl
  sealed_is (Synced log) steps at up = rw at refl
  sealed_is (Opened log) steps at up = rw at refl
  sealed_is (Sealed log) steps at up = rw at refl
  sealed_is (Closing log) steps at up = rw at refl
  sealed_is (Emptied log) steps at up = rw at refl
  sealed_is (Failed log) steps at up = absurd cc
  sealed_is (Torn log) steps at up = absurd cc
  sealed_is Taken steps at up = absurd cc
