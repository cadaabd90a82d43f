-- What a work that asks a table of names does.
use Rattle.std.specs.Prelude.{◌≡◌, ◌≢◌, ◌⊎◌, ℕ, ◌+◌, ◌*◌, ◌<◌, ◌≤◌, false, List, length, take, drop, ◌++◌, Some, IsTrue, Result, MatchResult}
use Rattle.lc_record.specs.Transaction.{is_member}
use Rattle.lc_range.specs.RangeSet.{AddsPositions}
use Rattle.lc_tx.specs.declared.tx_fault.TxFault.{TxFault}
use Rattle.lc_tx.specs.declared.tx_fault.TxFault.TheVariants.{NoMemory, NotLocked, OutOfSegment, ReadOnly, TooManyRanges}
use Rattle.lc_segments.specs.Ran.{AgreeOn, Bytes, Runs}
use Rattle.lc_names.specs.Answers.{Alters, Answers}
use Rattle.lc_names.specs.declared.name_answer.NameAnswer.{NameAnswer}
use Rattle.lc_names.specs.declared.ask.Ask.{Ask}
use Rattle.lc_names.specs.declared.ask.TheConstants.{SEGMENT}
use Rattle.lc_names.specs.declared.name_fault.NameFault.{NameFault}

-- it is answered, and the table is what the answer says; all after it, and all other segments, are as before
pub record IsAsked (ask : Ask) (locked : List ℕ) (before : Bytes) (answer : Result NameAnswer NameFault) (after : Bytes) : Type 0 where
  pub within : ask.len ≤ length (before SEGMENT)
  pub left : List ℕ
  pub answers : Answers ask.command (take ask.len (before SEGMENT)) answer left
  pub table : IsTrue (is_member SEGMENT locked) → after SEGMENT ≡ left ++ drop ask.len (before SEGMENT)
  pub others : (s : ℕ) → IsTrue (is_member s locked) → s ≢ SEGMENT → after s ≡ before s

-- why it is not answered. More ranges than may stand, which only a change wants, and no memory, only the transaction tells
abbrev pub IsUnasked : Ask → List ℕ → Bytes → TxFault → Type 0
IsUnasked ask locked before fault =
    ((fault ≡ NotLocked) × (is_member SEGMENT locked ≡ false))
    ⊎ (((fault ≡ ReadOnly SEGMENT) × (is_member SEGMENT locked ≡ false))
    ⊎ (((fault ≡ OutOfSegment) × (length (before SEGMENT) < ask.len))
    ⊎ (((fault ≡ TooManyRanges) × IsTrue (is_member SEGMENT locked) × (ask.len ≤ length (before SEGMENT)) × Alters ask.command (take ask.len (before SEGMENT)))
    ⊎ ((fault ≡ NoMemory) × (0 < ask.len) × (ask.len ≤ length (before SEGMENT))))))

-- nothing more is set, or the bytes of one entry of the table
abbrev pub SetsEntry : Ask → Runs → Runs → Type 0
SetsEntry ask set sets = (sets ≡ set) ⊎ ((place : ℕ) × (64 * place + 64 ≤ ask.len) × AddsPositions set SEGMENT (64 * place) 64 sets)

abbrev pub Asks : Ask → Ask → List ℕ → Bytes → Runs → Result (Unit {0}) TxFault → Bytes → Runs → Type 0
Asks old new locked before set answer after sets =
    MatchResult answer
    (λ _. (given : Result NameAnswer NameFault) × (new ≡ record old { answer = Some given }) × IsAsked old locked before given after × SetsEntry old set sets)
    (λ fault. (new ≡ old) × IsUnasked old locked before fault × AgreeOn locked after before × (sets ≡ set))
