-- The records that the transactions of a history stand for: the final bytes of all that they set.
use Rattle.std.specs.Prelude.{ℕ, ◌+◌, Bool, true, false, not, ◌==◌, List, [], ◌∷◌, ◌++◌, if◌then◌else◌}
use Rattle.lc_record.specs.Content.{Content, segment_of, put, on_segment}
use Rattle.lc_record.specs.Transaction.{Transaction, Marks, effect}
use Rattle.lc_record.specs.declared.record.Record.{Record}
use Rattle.lc_record.specs.declared.record.Lock.{Lock}
use Rattle.lc_record.specs.declared.record.RangeData.{RangeData}
use Rattle.lc_record.specs.Marks.{stretches}

-- these ranges, and before them the byte at this offset: it joins the first where it touches it
abbrev pub with_byte : ℕ → ℕ → ℕ → List RangeData → List RangeData
with_byte segment offset byte [] = record { segment = segment; offset = offset; bytes = byte ∷ [] } ∷ []
with_byte segment offset byte (range ∷ ranges) =
    if range.offset == offset + 1
    then record { segment = segment; offset = offset; bytes = byte ∷ range.bytes } ∷ ranges
    else record { segment = segment; offset = offset; bytes = byte ∷ [] } ∷ (range ∷ ranges)

-- the stretches of set positions of one segment, with their bytes, from this offset on
abbrev pub ranges_from : ℕ → ℕ → List Bool → List ℕ → List RangeData
ranges_from segment offset [] bytes = []
ranges_from segment offset (mark ∷ marks) [] = []
ranges_from segment offset (true ∷ marks) (byte ∷ bytes) = with_byte segment offset byte (ranges_from segment (offset + 1) marks bytes)
ranges_from segment offset (false ∷ marks) (byte ∷ bytes) = ranges_from segment (offset + 1) marks bytes

-- those of all segments, from this one on
abbrev pub ranges_of : ℕ → Marks → Content → List RangeData
ranges_of segment [] content = []
ranges_of segment (marks ∷ segments) [] = []
ranges_of segment (marks ∷ segments) (bytes ∷ content) = ranges_from segment 0 marks bytes ++ ranges_of (segment + 1) segments content

-- some position is set
abbrev pub is_set : List Bool → Bool
is_set marks = not (stretches false marks == 0)

-- a lock for each segment with a set position, from this one on, with the segment's next number
abbrev pub locks_of : (ℕ → ℕ) → ℕ → Marks → List Lock
locks_of numbers segment [] = []
locks_of numbers segment (marks ∷ segments) =
    if is_set marks
    then record { segment = segment; seq = numbers segment + 1 } ∷ locks_of numbers (segment + 1) segments
    else locks_of numbers (segment + 1) segments

-- the record of a transaction, over the content and the segments' numbers at its reservation
abbrev pub record_of : (ℕ → ℕ) → Content → Transaction → Record
record_of numbers content t = record {
  node = t.node;
  locks = locks_of numbers 1 t.marks;
  ranges = ranges_of 1 t.marks (effect t content);
}

-- the numbers after a transaction: one greater for each segment that it set
abbrev pub counted : (ℕ → ℕ) → Transaction → ℕ → ℕ
counted numbers t segment =
    if is_set (segment_of segment t.marks) then numbers segment + 1 else numbers segment

-- the records of these transactions, one after another
abbrev pub records_from : (ℕ → ℕ) → Content → List Transaction → List Record
records_from numbers content [] = []
records_from numbers content (t ∷ ts) = record_of numbers content t ∷ records_from (counted numbers t) (effect t content) ts

-- the content with the ranges' bytes put on
abbrev pub laid : List RangeData → Content → Content
laid [] content = content
laid (range ∷ ranges) content = laid ranges (on_segment range.segment (put range.offset range.bytes) content)
