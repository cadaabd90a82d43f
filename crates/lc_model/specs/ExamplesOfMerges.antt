-- Small stores that are worked out at a merge: segment 1 has a page or two of a few bytes.
use Rattle.std.specs.Prelude.{ℕ, List, [], ◌∷◌, replicate}
use Rattle.lc_record.specs.declared.record.Record.{Record}
use Rattle.lc_record.specs.declared.record.RangeData.{RangeData}
use Rattle.lc_model.specs.Merge.{Page, StoreText}

-- one byte of a segment
abbrev pub byte_range : ℕ → ℕ → ℕ → RangeData
byte_range segment offset byte = record { segment = segment; offset = offset; bytes = byte ∷ [] }

-- of a node, under this number of a segment
abbrev pub under : ℕ → ℕ → ℕ → List RangeData → Record
under node segment seq ranges = record { node = node; locks = record { segment = segment; seq = seq } ∷ []; ranges = ranges }

-- it has the first byte of segment 1
abbrev pub first_byte : ℕ → ℕ → ℕ → Record
first_byte node seq byte = under node 1 seq (byte_range 1 0 byte ∷ [])

-- a page with this sequence and these bytes
abbrev pub page_of : ℕ → List ℕ → Page
page_of sequence bytes = record { sequence = sequence; bytes = bytes }

-- segment 1 has one page, of two bytes
abbrev pub of_page : ℕ → List (List Record) → StoreText
of_page sequence logs = record { logs = logs; pages = (page_of sequence (7 ∷ 8 ∷ []) ∷ []) ∷ [] }

-- the second of three is missing
abbrev pub missing : StoreText
missing = of_page 0 ((first_byte 0 1 11 ∷ []) ∷ (first_byte 1 3 13 ∷ []) ∷ [])

-- two of two nodes have the same number
abbrev pub twice : StoreText
twice = of_page 0 ((first_byte 0 1 11 ∷ []) ∷ (first_byte 1 1 12 ∷ []) ∷ [])

-- two of one node have it
abbrev pub twice_in_one : StoreText
twice_in_one = of_page 0 ((first_byte 0 1 11 ∷ first_byte 0 1 12 ∷ []) ∷ [] ∷ [])

-- two have the same number, each of its own segment
abbrev pub of_two_segments : StoreText
of_two_segments = of_page 0 ((first_byte 0 1 11 ∷ []) ∷ (under 1 2 1 (byte_range 2 0 12 ∷ []) ∷ []) ∷ [])

-- the page is above both records
abbrev pub above : StoreText
above = of_page 5 ((first_byte 0 1 11 ∷ first_byte 0 2 12 ∷ []) ∷ [] ∷ [])

-- the first log has the later record
abbrev pub crossed : StoreText
crossed = of_page 0 ((first_byte 0 2 12 ∷ []) ∷ (first_byte 1 1 11 ∷ []) ∷ [])

-- each has a byte of both pages: the second and the fourth of segment 1
abbrev pub the_second : Record
the_second = under 0 1 2 (byte_range 1 0 12 ∷ byte_range 1 256 22 ∷ [])

abbrev pub the_fourth : Record
the_fourth = under 1 1 4 (byte_range 1 1 14 ∷ byte_range 1 257 24 ∷ [])

-- one page is below both records, and the other between them
abbrev pub uneven : StoreText
uneven = record {
  logs = (the_second ∷ []) ∷ (the_fourth ∷ []) ∷ [];
  pages = (page_of 1 (7 ∷ 8 ∷ []) ∷ page_of 3 (7 ∷ 8 ∷ []) ∷ []) ∷ [];
}

-- a page of 256 bytes, which begins with those
abbrev pub whole_page : List ℕ
whole_page = 7 ∷ 8 ∷ replicate 254 0

abbrev pub above_whole : StoreText
above_whole = record { logs = above.logs; pages = (page_of 5 whole_page ∷ []) ∷ [] }
