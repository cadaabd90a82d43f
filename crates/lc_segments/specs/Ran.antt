-- Of a segment: a run of a work, as its caller knows it.
use Rattle.std.specs.Prelude.{◌≡◌, ◌≢◌, ℕ, List, [], map, length, IsTrue, Result}
use Rattle.lc_record.specs.Transaction.{is_member}
use Rattle.lc_record.specs.declared.record.Record.{Record}
use Rattle.lc_record.specs.declared.record.RangeData.{RangeData}
use Rattle.lc_record.specs.declared.record.Lock.{Lock}
use Rattle.lc_range.specs.RangeSet.{IsCanonical}
use Rattle.lc_range.specs.declared.range.Range.{Range}
use Rattle.lc_tx.specs.Prepared.{segments_of}
use Rattle.lc_tx.specs.Tx.{IsSetOf}
use Rattle.lc_tx.specs.declared.tx_fault.TxFault.{TxFault}

-- the bytes of each segment
abbrev pub Bytes : Type 0
Bytes = ℕ → List ℕ

-- both have the same bytes of these segments
abbrev pub AgreeOn : List ℕ → Bytes → Bytes → Type 0
AgreeOn segments one other = (s : ℕ) → IsTrue (is_member s segments) → one s ≡ other s

-- what is set in a transaction: runs of positions, ascending, none next to another
abbrev pub Runs : Type 0
Runs = List Range

-- what a work tells of a run: with these segments locked for writing, these bytes and these runs set it answers so, and leaves
-- those bytes and those runs
abbrev pub Tells : Type 1
Tells = List ℕ → Bytes → Runs → Result (Unit {0}) TxFault → Bytes → Runs → Type 0

-- so it ran with these segments locked, which had the old bytes, and nothing set, and left them the new bytes and these runs
pub record Ran (tells : Tells) (segments : List ℕ) (old : Bytes) (answer : Result (Unit {0}) TxFault) (new : Bytes) (set : Runs) : Type 0 where
  pub locked : List ℕ
  pub are_locked : IsSetOf segments locked
  pub before : Bytes
  pub after : Bytes
  pub was : AgreeOn segments before old
  pub left : AgreeOn segments after new
  pub told : tells locked before [] answer after set

-- the run of a range's bytes
abbrev pub run_of : RangeData → Range
run_of range = record { segment = range.segment; offset = range.offset; len = length range.bytes }

-- something is set, and the record is of that alone: its ranges are just those runs, and its locks are on just their segments
pub record IsOfRuns (set : Runs) (r : Record) : Type 0 where
  pub some : set ≢ []
  pub canonical : IsCanonical set
  pub ranges : map run_of r.ranges ≡ set
  pub locks : map (λ (lock : Lock). lock.segment) r.locks ≡ segments_of set
