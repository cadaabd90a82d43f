-- The numbers of all records, each under its lock.
use Rattle.std.specs.Prelude.{◌≡◌, ◌⊎◌, ℕ, ◌<◌, ◌≤◌, Bool, ◌==◌, ◌&&◌, List, [], ◌∷◌, map, flat_map, filter, length, All, Contains, slice_index_or, ◌-◌}
use Rattle.lc_record.specs.declared.record.Lock.{Lock}
use Rattle.lc_record.specs.declared.record.Record.{Record}
use Rattle.lc_model.specs.Merge.{Page, greatest}
use Rattle.lc_recover.specs.Pages.{kept_pages}
use Rattle.lc_recover.specs.declared.segment_pages.SegmentPages.{SegmentPages}
use Rattle.lc_recover.specs.declared.lock_number.LockNumber.{LockNumber}

-- the number of a lock
abbrev pub number_of : Lock → LockNumber
number_of lock = record { segment = lock.segment; seq = lock.seq }

-- the numbers of a record
abbrev pub numbers_of : Record → List LockNumber
numbers_of r = map number_of r.locks

-- the numbers of these records
abbrev pub numbers_in : List Record → List LockNumber
numbers_in records = flat_map numbers_of records

-- it is this number of this segment
abbrev pub is_number : ℕ → ℕ → LockNumber → Bool
is_number segment seq n = (n.segment == segment) && (n.seq == seq)

-- how often this number of the segment is among these
abbrev pub times : ℕ → ℕ → List LockNumber → ℕ
times segment seq numbers = length (filter (is_number segment seq) numbers)

-- the first stands before the second, or both are the same
abbrev pub IsUpTo : LockNumber → LockNumber → Type 0
IsUpTo a b = (a.segment < b.segment) ⊎ ((a.segment ≡ b.segment) × (a.seq ≤ b.seq))

-- each is at most all that follow
abbrev pub AreInOrder : List LockNumber → Type 0
AreInOrder [] = Unit {0}
AreInOrder (n ∷ ns) = All (IsUpTo n) ns × AreInOrder ns

-- the number stands twice among these
abbrev pub StandsTwice : List LockNumber → ℕ → ℕ → Type 0
StandsTwice numbers segment seq = 2 ≤ times segment seq numbers

-- the greatest sequence of these pages
abbrev pub greatest_kept : SegmentPages → ℕ
greatest_kept s = greatest (map (λ (p : Page). p.sequence) (kept_pages s))

-- the count of a segment, of which segment 1 stands first
abbrev pub count_of : List ℕ → ℕ → ℕ
count_of counts segment = slice_index_or counts (segment - 1) 0

-- a number above the segment's count is not among these, and a greater one is
pub record IsMissing (counts : List ℕ) (numbers : List LockNumber) (segment seq : ℕ) : Type 0 where
  pub some : 1 ≤ segment
  pub within : segment ≤ length counts
  pub above : count_of counts segment < seq
  pub none : times segment seq numbers ≡ 0
  pub greater : (n : LockNumber) × Contains numbers n × (n.segment ≡ segment) × (seq < n.seq)

-- the new count is the greatest of the old one and of these numbers of the segment
pub record IsCount (count segment : ℕ) (numbers : List LockNumber) (new : ℕ) : Type 0 where
  pub at_least : count ≤ new
  pub all : (n : LockNumber) → Contains numbers n → n.segment ≡ segment → n.seq ≤ new
  pub is : (new ≡ count) ⊎ ((n : LockNumber) × Contains numbers n × (n.segment ≡ segment) × (n.seq ≡ new))

-- no number is missing, and these are the counts with all numbers
pub record IsNumbering (counts : List ℕ) (numbers : List LockNumber) (new : List ℕ) : Type 0 where
  pub no_gap : (segment seq : ℕ) → IsMissing counts numbers segment seq → ⊥
  pub count : length new ≡ length counts
  pub each : (segment : ℕ) → 1 ≤ segment → segment ≤ length counts →
      IsCount (count_of counts segment) segment numbers (count_of new segment)
