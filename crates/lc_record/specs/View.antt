-- What contracts see of a record that is read in its words: the record.
use Rattle.std.specs.Prelude.{ℕ, List, [], Option, slice_get}
use Rattle.std.specs.Option.{unwrap_or}
use Rattle.lc_record.specs.Record.{IsRecord}
use Rattle.lc_record.specs.Reading.{◌>>=◌, record_at}
use Rattle.lc_record.specs.declared.record.Record.{Record}
use Rattle.lc_record.specs.declared.view.View.TheInside.{Inside}

-- the record of these words, where they are one
abbrev pub record_in : List ℕ → Record
record_in words = unwrap_or (record_at words) (record { node = 0; locks = []; ranges = [] })

abbrev pub view_record : Inside → Record
view_record v = record_in v.words.now

-- the words are all of the record, and no more
abbrev pub IsView : Inside → Type 0
IsView v = IsRecord (record_in v.words.now) v.words.now

-- a byte of a range, where there are both
abbrev pub byte_at : Record → ℕ → ℕ → Option ℕ
byte_at r range place = slice_get r.ranges range >>= λ its. slice_get its.bytes place
