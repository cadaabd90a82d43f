-- How a content is told from records alone: by their ranges one after another.
use Rattle.std.specs.Prelude.{ℕ, ◌<◌, Bool, not, ◌==◌, List, [], ◌∷◌, map, filter, Option, slice_get, if◌then◌else◌}
use Rattle.lc_record.specs.Content.{Content, segment_of}
use Rattle.lc_record.specs.Transaction.{Transaction, effect}
use Rattle.lc_record.specs.declared.record.Record.{Record}
use Rattle.lc_model.specs.History.{Numbered}
use Rattle.lc_record.specs.Recorded.{is_set, record_of, counted, laid}
use Rattle.lc_record.specs.Newest.{number_or_zero}

-- Records one after another

-- the content with the records' ranges put on
abbrev pub put_on : List Record → Content → Content
put_on [] content = content
put_on (r ∷ rs) content = put_on rs (laid r.ranges content)

-- the records of those that pass a test, each made over what all before it made of the content and the numbers
abbrev pub kept_records : (Numbered → Bool) → (ℕ → ℕ) → Content → List Numbered → List Record
kept_records keep numbers content [] = []
kept_records keep numbers content (x ∷ xs) =
    if keep x
    then record_of numbers content x.transaction ∷ kept_records keep (counted numbers x.transaction) (effect x.transaction content) xs
    else kept_records keep (counted numbers x.transaction) (effect x.transaction content) xs

-- the record is of this node
abbrev pub is_from : ℕ → Record → Bool
is_from node r = r.node == node

-- Bytes

-- the byte at a place of a segment
abbrev pub byte_at : ℕ → ℕ → Content → Option ℕ
byte_at segment place content = slice_get (segment_of segment content) place

-- Numbers

-- the segment's numbers in these records, in order
abbrev pub numbers_in : ℕ → List Record → List ℕ
numbers_in segment records = filter (λ n. not (n == 0)) (map (λ (r : Record). number_or_zero segment r.locks) records)

-- whether a transaction set some byte of the segment
abbrev pub sets : ℕ → Transaction → Bool
sets segment t = is_set (segment_of segment t.marks)

-- of two that have the segment's lock, the second has the greater number
abbrev pub Rises : ℕ → Record → Record → Type 0
Rises segment r q = 0 < number_or_zero segment r.locks → 0 < number_or_zero segment q.locks → number_or_zero segment r.locks < number_or_zero segment q.locks

-- the numbers after these transactions
abbrev pub counted_all : (ℕ → ℕ) → List Transaction → ℕ → ℕ
counted_all numbers [] = numbers
counted_all numbers (t ∷ ts) = counted_all (counted numbers t) ts
