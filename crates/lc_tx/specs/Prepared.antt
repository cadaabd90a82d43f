-- The record of a transaction: the final bytes of all that it set.
use Rattle.std.specs.Prelude.{◌≡◌, ◌⊎◌, ℕ, ◌+◌, ◌<◌, ◌≤◌, ◌^◌, ◌==◌, if◌then◌else◌, List, [], ◌∷◌, map, take, drop, length, unwrap_or, IsTrue}
use Rattle.lc_record.specs.Transaction.{is_member}
use Rattle.lc_range.specs.declared.range.Range.{Range}
use Rattle.lc_record.specs.Record.{record_len, IsRecord}
use Rattle.lc_record.specs.declared.record.Record.{Record}
use Rattle.lc_record.specs.declared.record.Lock.{Lock}
use Rattle.lc_record.specs.declared.record.RangeData.{RangeData}
use Rattle.lc_tx.specs.declared.images.Images.{Ghosts}
use Rattle.lc_tx.specs.declared.prepared.Prepared.{Prepared}
use Rattle.lc_tx.specs.declared.prepared.Prepared.TheVariants.{Empty, Record as Words}
use Rattle.lc_tx.specs.declared.tx.Tx.{Tx}
use Rattle.lc_tx.specs.Images.{bytes_of}

-- the number in front of ascending ones, once
abbrev pub with_number : ℕ → List ℕ → List ℕ
with_number n [] = n ∷ []
with_number n (next ∷ numbers) = if n == next then next ∷ numbers else n ∷ next ∷ numbers

-- the segments of these runs, each once
abbrev pub segments_of : List Range → List ℕ
segments_of [] = []
segments_of (run ∷ runs) = with_number run.segment (segments_of runs)

-- the least of these locks whose number is above the greatest
abbrev pub IsFirstSpent : List Lock → ℕ → Type 0
IsFirstSpent [] segment = ⊥
IsFirstSpent (lock ∷ locks) segment =
    ((2 ^ 60 < lock.seq) × (segment ≡ lock.segment)) ⊎ ((lock.seq ≤ 2 ^ 60) × IsFirstSpent locks segment)

-- each number is at most the greatest
abbrev pub AreUnspent : List Lock → Type 0
AreUnspent [] = Unit {0}
AreUnspent (lock ∷ locks) = (lock.seq ≤ 2 ^ 60) × AreUnspent locks

-- the words are those of the record
abbrev pub IsRecordOf : Record → Prepared → Type 0
IsRecordOf r Empty = ⊥
IsRecordOf r (Words words) = IsRecord r words × (length words ≡ record_len r)

module _ {I : Type 0} (m : Ghosts I) where
  -- the number after that of a segment's token
  abbrev pub next_number : I → ℕ → ℕ
  next_number images segment = unwrap_or (m.number_of images segment) 0 + 1

  -- a run with its final bytes
  abbrev pub run_data : I → Range → RangeData
  run_data images run = record {
    segment = run.segment;
    offset = run.offset;
    bytes = take run.len (drop run.offset (bytes_of m images run.segment));
  }

  -- the next number of each segment of these runs, and the final bytes of each run
  abbrev pub runs_record : I → List Range → ℕ → Record
  runs_record images runs node = record {
    node = node;
    locks = map (λ segment. record { segment = segment; seq = next_number images segment }) (segments_of runs);
    ranges = map (run_data images) runs;
  }

  -- of all that a transaction set
  abbrev pub final_record : I → Tx → ℕ → Record
  final_record images tx node = runs_record images tx.set node

  -- something is set, the next numbers are at most the greatest, and the record has 4096 words at most
  pub record IsLoggable (images : I) (tx : Tx) (node : ℕ) : Type 0 where
    pub some : tx.set ≡ [] → ⊥
    pub unspent : AreUnspent (final_record images tx node).locks
    pub short : record_len (final_record images tx node) ≤ 4096

  -- a segment that it locked is one of 16, from 1, and has 262,144 bytes at most
  pub record AreSmall (images : I) (segments : List ℕ) : Type 0 where
    pub some : (segment : ℕ) → IsTrue (is_member segment segments) → 1 ≤ segment
    pub few : (segment : ℕ) → IsTrue (is_member segment segments) → segment ≤ 16
    pub short : (segment : ℕ) → IsTrue (is_member segment segments) → length (bytes_of m images segment) ≤ 262144
