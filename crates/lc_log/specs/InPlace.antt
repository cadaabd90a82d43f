-- Where the records of a log stand in its words.
use Rattle.std.specs.Prelude.{ℕ, zero, suc, ◌+◌, ◌^◌, nat_lt, if◌then◌else◌, List, [], ◌∷◌, Option, length, drop}
use Rattle.std.specs.Option.{option_map_or}
use Rattle.lc_record.specs.Record.{record_len}
use Rattle.lc_record.specs.Reading.{◌>>=◌, len_at, record_at}
use Rattle.lc_record.specs.declared.record.Record.{Record}
use Rattle.lc_log.specs.declared.in_place.RecordPlaces.{RecordPlaces}

-- the place of each record and how many words it takes, the first at this place
abbrev pub spans_from : ℕ → List Record → List (ℕ × ℕ)
spans_from place [] = []
spans_from place (r ∷ rs) = (place, record_len r) ∷ spans_from (place + record_len r) rs

-- these numbers, up to the first that fits no word
abbrev pub words_in_front : List ℕ → List ℕ
words_in_front [] = []
words_in_front (w ∷ ws) = if nat_lt w (2 ^ 64) then w ∷ words_in_front ws else []

-- the record that these begin with, where there is one
unfoldable pub first_record : List ℕ → Option Record
first_record words = do
  _ ← len_at (words_in_front words)
  record_at (words_in_front words)

-- so many records at most that these begin with, one after another
unfoldable pub read_records : ℕ → List ℕ → List Record
read_records zero words = []
read_records (suc n) words = option_map_or (λ r. r ∷ read_records n (drop (record_len r) words)) (first_record words) []

-- all records that these begin with, one after another
unfoldable pub records_in : List ℕ → List Record
records_in words = read_records (length words) words

-- their places
abbrev pub spans_in : List ℕ → List (ℕ × ℕ)
spans_in words = spans_from 0 (records_in words)

-- the places of the records that are still to come
unfoldable pub left_of : RecordPlaces → List (ℕ × ℕ)
left_of it = spans_from it.place (records_in (drop it.place it.words.now))
