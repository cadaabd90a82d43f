-- The records that a node reserved, as contracts see them, and how they are kept: all words in one list, with places.
use Rattle.std.specs.Prelude.{◌≡◌, ℕ, zero, suc, ◌+◌, ◌-◌, ◌<◌, ◌≤◌, ◌^◌, nat_lt, if◌then◌else◌, Bool, true, List, [], ◌∷◌, map, length, take, drop}
use Rattle.std.specs.List.{count_by, flat_map}
use Rattle.lc_model.specs.History.{leading}
use Rattle.lc_journal.specs.declared.record_end.RecordEnd.{RecordEnd}

-- a record's words, and whether it is closed
pub record Spelled : Type 0 where
  pub words : List ℕ
  pub closed : Bool

-- how many were dropped, and those after them
pub record KeptRecords : Type 0 where
  pub before : ℕ
  pub records : List Spelled

-- the words of these records, one after another
abbrev pub all_words : List Spelled → List ℕ
all_words records = flat_map (λ r. r.words) records

abbrev pub marks_of : List Spelled → List Bool
marks_of records = map (λ r. r.closed) records

-- how many were reserved
abbrev pub count_of : KeptRecords → ℕ
count_of k = k.before + length k.records

-- how many stand in front of the first that is not closed
abbrev pub front_of : KeptRecords → ℕ
front_of k = k.before + leading (marks_of k.records)

-- how many are closed from this number on
abbrev pub closed_from : ℕ → KeptRecords → ℕ
closed_from number k = count_by (λ r. r.closed) (drop (number - k.before) k.records)

-- the words of the records from one number up to another
abbrev pub span_of : KeptRecords → ℕ → ℕ → List ℕ
span_of k from to = all_words (take (to - from) (drop (from - k.before) k.records))

-- the record at this place is closed
abbrev pub closing : ℕ → List Spelled → List Spelled
closing place [] = []
closing zero (r ∷ rs) = record r { closed = true } ∷ rs
closing (suc place) (r ∷ rs) = r ∷ closing place rs

-- the record of this number is closed, where it is kept
abbrev pub closed_at : ℕ → KeptRecords → KeptRecords
closed_at number k = if nat_lt number k.before then k else record k { records = closing (number - k.before) k.records }

-- How they are kept

-- the records with these places, of which the first begins with the first of these words, after so many
abbrev pub spelled : ℕ → List ℕ → List RecordEnd → List Spelled
spelled start words [] = []
spelled start words (p ∷ ps) =
    record { words = take (p.end - start) words; closed = p.closed } ∷ spelled p.end (drop (p.end - start) words) ps

-- the places of these records, after so many words
abbrev pub places_of : ℕ → List Spelled → List RecordEnd
places_of start [] = []
places_of start (r ∷ rs) =
    record { end = start + length r.words; closed = r.closed } ∷ places_of (start + length r.words) rs

-- the place, so many words further in front
abbrev pub shifted : ℕ → RecordEnd → RecordEnd
shifted cut p = record p { end = p.end - cut }

-- the words are those of records with these places
abbrev pub Lie : List ℕ → List RecordEnd → Type 0
Lie words places = (rs : List Spelled) × (places ≡ places_of 0 rs) × (words ≡ all_words rs)

-- the words are those of the records with these places, the first so many of which are closed; of these the first so many
-- were dropped
pub record AreKept (first : ℕ) (words : List ℕ) (places : List RecordEnd) (gone front : ℕ) : Type 0 where
  pub words_are : words ≡ all_words (spelled 0 words places)
  pub places_are : places ≡ places_of 0 (spelled 0 words places)
  pub front_is : front ≡ leading (marks_of (spelled 0 words places))
  pub gone_closed : gone ≤ front
  pub few : first + length places < 2 ^ 63
