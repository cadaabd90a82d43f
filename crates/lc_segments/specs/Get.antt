-- What a work that gets bytes does.
use Rattle.std.specs.Prelude.{◌≡◌, ◌⊎◌, ℕ, ◌+◌, ◌<◌, ◌≤◌, false, List, length, take, drop, Result, MatchResult}
use Rattle.lc_record.specs.Transaction.{is_member}
use Rattle.lc_tx.specs.declared.tx_fault.TxFault.{TxFault}
use Rattle.lc_tx.specs.declared.tx_fault.TxFault.TheVariants.{NotLocked, OutOfSegment, NoMemory}
use Rattle.lc_segments.specs.Ran.{AgreeOn, Bytes, Runs}
use Rattle.lc_segments.specs.declared.get.Get.{Get}

-- why they are not got
abbrev pub IsUngot : Get → List ℕ → Bytes → TxFault → Type 0
IsUngot g locked before fault =
    ((fault ≡ NotLocked) × (is_member g.segment locked ≡ false))
    ⊎ (((fault ≡ OutOfSegment) × (length (before g.segment) < g.offset + g.len))
    ⊎ ((fault ≡ NoMemory) × (0 < g.len) × (g.offset + g.len ≤ length (before g.segment))))

-- it finds them, and changes nothing
abbrev pub Gets : Get → Get → List ℕ → Bytes → Runs → Result (Unit {0}) TxFault → Bytes → Runs → Type 0
Gets old new locked before set answer after sets =
    AgreeOn locked after before
    × (sets ≡ set)
    × MatchResult answer
    (λ _. (new ≡ record old { found = new.found }) × (old.offset + old.len ≤ length (before old.segment)) × (new.found.items ≡ take old.len (drop old.offset (before old.segment))))
    (λ fault. (new ≡ old) × IsUngot old locked before fault)
