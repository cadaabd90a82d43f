-- What records have for one byte of a segment, and which of them has the greatest number.
use Rattle.std.specs.Prelude.{◌≡◌, ℕ, zero, suc, ◌≤◌, Bool, false, ◌&&◌, ◌==◌, nat_lt, ◌⊎◌, List, [], ◌∷◌, Option, None, is_some, slice_get, All, Contains, IsTrue, if◌then◌else◌}
use Rattle.std.specs.Option.{unwrap_or, option_or}
use Rattle.lc_record.specs.declared.record.Record.{Record}
use Rattle.lc_record.specs.declared.record.Lock.{Lock}
use Rattle.lc_record.specs.declared.record.RangeData.{RangeData}
use Rattle.lc_record.specs.Part.{number_in}

-- the number under the segment's lock, 0 without one
abbrev pub number_or_zero : ℕ → List Lock → ℕ
number_or_zero segment locks = unwrap_or (number_in segment locks) 0

-- the byte at a place, of bytes that begin at an offset
abbrev pub byte_from : ℕ → List ℕ → ℕ → Option ℕ
byte_from zero bytes place = slice_get bytes place
byte_from (suc offset) bytes zero = None
byte_from (suc offset) bytes (suc place) = byte_from offset bytes place

-- the byte that a range has for a place of a segment
abbrev pub byte_in : ℕ → ℕ → RangeData → Option ℕ
byte_in segment place range =
    if range.segment == segment then byte_from range.offset range.bytes place else None

-- the byte that the last of these ranges has that has one
abbrev pub byte_of : ℕ → ℕ → List RangeData → Option ℕ
byte_of segment place [] = None
byte_of segment place (range ∷ ranges) =
    option_or (byte_of segment place ranges) (byte_in segment place range)

-- it has a byte for the place, under a number above the floor
abbrev pub has_byte : ℕ → ℕ → ℕ → Record → Bool
has_byte segment place floor r =
    is_some (byte_of segment place r.ranges) && nat_lt floor (number_or_zero segment r.locks)

-- the record is the one with the greatest number, and the byte is its
pub record IsNewest (segment place floor : ℕ) (records : List Record) (byte : Option ℕ) (r : Record)
    : Type 0 where
  pub among : Contains records r
  pub has : IsTrue (has_byte segment place floor r)
  pub is : byte ≡ byte_of segment place r.ranges
  pub greatest : All (λ q. IsTrue (has_byte segment place floor q)
      → number_or_zero segment q.locks ≤ number_or_zero segment r.locks) records

-- the byte is that of the record with the greatest number above the floor, or the one before where there is none
abbrev pub IsByNumber : ℕ → ℕ → ℕ → List Record → Option ℕ → Option ℕ → Type 0
IsByNumber segment place floor records before after =
    (All (λ q. has_byte segment place floor q ≡ false) records × (after ≡ before))
    ⊎ ((r : Record) × IsNewest segment place floor records after r)
