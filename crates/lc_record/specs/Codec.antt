-- What reading and writing of records gives, by the grammar alone.
use Rattle.std.specs.Prelude.{◌≡◌, ℕ, ◌-◌, ◌^◌, ◌<◌, ◌≤◌, min, List, ◌++◌, length, take}
use Rattle.std.specs.List.{AllByRecursion}
use Rattle.lc_record.specs.Record.{record_len, IsCanonical, IsRecord, HoldsBytes}
use Rattle.lc_record.specs.declared.record.Record.{Record}
use Rattle.lc_record.specs.declared.fault.RecordFault.{RecordFault}
use Rattle.lc_record.specs.declared.fault.RecordFault.TheVariants.{NotCanonical, TooLong, NoMemory}

-- these words begin with the record, which has this many
pub record BeginsWith (words : List ℕ) (r : Record) (len : ℕ) : Type 0 where
  pub whole : IsRecord r (take len words)
  pub within : len ≤ length words

-- they begin with no record
abbrev pub BeginsNoRecord : List ℕ → Type 0
BeginsNoRecord words = (r : Record) (front rest : List ℕ) → IsRecord r front → words ≡ front ++ rest → ⊥

-- why a record, whose bytes are bytes, is not written
abbrev pub IsRefused : Record → RecordFault → Type 0
IsRefused r NotCanonical = AllByRecursion HoldsBytes r.ranges × (IsCanonical r → ⊥)
IsRefused r (TooLong words) = IsCanonical r × (4096 < record_len r) × (words ≡ min (record_len r) (2 ^ 64 - 1))
IsRefused r NoMemory = IsCanonical r × (record_len r ≤ 4096)
