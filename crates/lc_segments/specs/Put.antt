-- What a work that puts bytes does.
use Rattle.std.specs.Prelude.{◌≡◌, ◌≢◌, ◌⊎◌, ℕ, ◌+◌, ◌-◌, ◌^◌, ◌<◌, ◌≤◌, false, List, length, min, IsTrue, Result, MatchResult}
use Rattle.lc_record.specs.Content.{put}
use Rattle.lc_record.specs.Transaction.{is_member}
use Rattle.lc_range.specs.RangeSet.{AddsPositions}
use Rattle.lc_tx.specs.declared.tx_fault.TxFault.{TxFault}
use Rattle.lc_tx.specs.declared.tx_fault.TxFault.TheVariants.{NotLocked, ReadOnly, EmptyRange, OutOfSegment, TooManyRanges, NoMemory}
use Rattle.lc_segments.specs.Ran.{AgreeOn, Bytes, Runs}
use Rattle.lc_segments.specs.declared.put.Put.{Put}

-- the segment is locked for writing, and the bytes are some and lie in it
abbrev pub Fits : Put → List ℕ → Bytes → Type 0
Fits p locked before =
    IsTrue (is_member p.segment locked) × (0 < length p.bytes.now) × (p.offset + length p.bytes.now ≤ min (length (before p.segment)) (2 ^ 32 - 1))

-- why they are not put. More ranges than may stand, and no memory, only the transaction tells
abbrev pub IsUnput : Put → List ℕ → Bytes → TxFault → Type 0
IsUnput p locked before fault =
    ((fault ≡ NotLocked) × (is_member p.segment locked ≡ false))
    ⊎ (((fault ≡ ReadOnly p.segment) × (is_member p.segment locked ≡ false))
    ⊎ (((fault ≡ EmptyRange) × IsTrue (is_member p.segment locked) × (length p.bytes.now ≡ 0))
    ⊎ (((fault ≡ OutOfSegment) × (IsTrue (is_member p.segment locked) ⊎ (2 ^ 32 ≤ length p.bytes.now)) × (min (length (before p.segment)) (2 ^ 32 - 1) < p.offset + length p.bytes.now))
    ⊎ (((fault ≡ TooManyRanges) ⊎ (fault ≡ NoMemory)) × Fits p locked before))))

-- it sets their positions beside those that were set, and puts them there, and changes nothing else
abbrev pub Puts : Put → List ℕ → Bytes → Runs → Result (Unit {0}) TxFault → Bytes → Runs → Type 0
Puts p locked before set answer after sets =
    MatchResult answer
    (λ _. Fits p locked before × AddsPositions set p.segment p.offset (length p.bytes.now) sets × (after p.segment ≡ put p.offset p.bytes.now (before p.segment)) × ((s : ℕ) → IsTrue (is_member s locked) → s ≢ p.segment → after s ≡ before s))
    (λ fault. IsUnput p locked before fault × AgreeOn locked after before × (sets ≡ set))
