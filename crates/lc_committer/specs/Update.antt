-- What a work that changes bytes does.
use Rattle.std.specs.Prelude.{◌≡◌, ◌≢◌, ◌⊎◌, ℕ, ◌+◌, ◌-◌, ◌^◌, ◌<◌, ◌≤◌, false, List, length, take, drop, min, IsTrue, Result, MatchResult}
use Rattle.lc_record.specs.Content.{put}
use Rattle.lc_record.specs.Transaction.{is_member}
use Rattle.lc_range.specs.RangeSet.{AddsPositions}
use Rattle.lc_tx.specs.declared.tx_fault.TxFault.{TxFault}
use Rattle.lc_tx.specs.declared.tx_fault.TxFault.TheVariants.{NotLocked, ReadOnly, EmptyRange, OutOfSegment, TooManyRanges, NoMemory}
use Rattle.lc_segments.specs.Ran.{AgreeOn, Bytes, Runs}
use Rattle.lc_committer.specs.declared.update.Update.{Update}

module _ {C : Type 0} where
  -- the segment is locked for writing, and the range has bytes and lies in it
  abbrev pub Fits : Update C → List ℕ → Bytes → Type 0
  Fits u locked before = IsTrue (is_member u.segment locked) × (0 < u.len) × (u.offset + u.len ≤ min (length (before u.segment)) (2 ^ 32 - 1))

  -- why nothing is changed. More ranges than may stand, and no memory, only the transaction tells
  abbrev pub IsUnchanged : Update C → List ℕ → Bytes → TxFault → Type 0
  IsUnchanged u locked before fault =
      ((fault ≡ NotLocked) × (is_member u.segment locked ≡ false))
      ⊎ (((fault ≡ ReadOnly u.segment) × (is_member u.segment locked ≡ false))
      ⊎ (((fault ≡ EmptyRange) × IsTrue (is_member u.segment locked) × (u.len ≡ 0))
      ⊎ (((fault ≡ OutOfSegment) × (min (length (before u.segment)) (2 ^ 32 - 1) < u.offset + u.len))
      ⊎ (((fault ≡ TooManyRanges) × Fits u locked before)
      ⊎ ((fault ≡ NoMemory) × (0 < u.len) × (u.offset + u.len ≤ length (before u.segment)))))))

  -- it sets the range's positions beside those that were set, puts there what one call of the change made of its bytes, and changes
  -- nothing else
  abbrev pub Updates : (C → List ℕ → C → List ℕ → Type 0) → Update C → Update C → List ℕ → Bytes → Runs → Result (Unit {0}) TxFault → Bytes → Runs → Type 0
  Updates changes old new locked before set answer after sets =
      MatchResult answer
      (λ _. Fits old locked before × AddsPositions set old.segment old.offset old.len sets
      × ((bytes : List ℕ) × (length bytes ≡ old.len) × changes old.change (take old.len (drop old.offset (before old.segment))) new.change bytes × (after old.segment ≡ put old.offset bytes (before old.segment)))
      × ((s : ℕ) → IsTrue (is_member s locked) → s ≢ old.segment → after s ≡ before s) × (new ≡ record old { change = new.change }))
      (λ fault. (new ≡ old) × IsUnchanged old locked before fault × AgreeOn locked after before × (sets ≡ set))
