-- The replay of a segment: all records, in their order, on the bytes that its pages hold, each page at its moment.
use Rattle.std.specs.Prelude.{◌≡◌, ℕ, ◌+◌, ◌*◌, ◌<◌, ◌≤◌, ◌==◌, max, min, nat_le, nat_lt, List, [], ◌∷◌, take, drop, length, Option, Some, None, if◌then◌else◌}
use Rattle.lc_page.specs.Page.{Page, page_in}
use Rattle.lc_record.specs.Content.{put}
use Rattle.lc_record.specs.Newest.{number_or_zero}
use Rattle.lc_record.specs.declared.record.RangeData.{RangeData}
use Rattle.lc_record.specs.declared.record.Record.{Record}
use Rattle.lc_rest.specs.Turns.{has_lock}

-- the bytes of a segment with this range put on, if it is of the segment
abbrev pub range_on : ℕ → RangeData → List ℕ → List ℕ
range_on segment range bytes = if range.segment == segment then put range.offset range.bytes bytes else bytes

-- the bytes of a segment with its ranges among these put on
abbrev pub laid_on : ℕ → List RangeData → List ℕ → List ℕ
laid_on segment [] bytes = bytes
laid_on segment (range ∷ ranges) bytes = laid_on segment ranges (range_on segment range bytes)

-- and with those of these records
abbrev pub bytes_after : ℕ → List Record → List ℕ → List ℕ
bytes_after segment [] bytes = bytes
bytes_after segment (r ∷ rs) bytes = bytes_after segment rs (laid_on segment r.ranges bytes)

-- the number of the segment after these records
abbrev pub number_after : ℕ → List Record → ℕ → ℕ
number_after segment [] number = number
number_after segment (r ∷ rs) number = number_after segment rs (if has_lock segment r then number + 1 else number)

-- a page's part of the bytes
abbrev pub part_at : ℕ → List ℕ → List ℕ
part_at page bytes = take 256 (drop (page * 256) bytes)

-- the page is what the first so many records, as many as the number needs to come to its sequence, make of the bytes
pub record IsPlayed (segment first : ℕ) (rs : List Record) (start : List ℕ) (page : ℕ) (text : Page) : Type 0 where
  pub turns : ℕ
  pub count : number_after segment (take turns rs) first ≡ max first text.sequence
  pub fewest : (fewer : ℕ) → fewer < turns → number_after segment (take fewer rs) first < max first text.sequence
  pub bytes : text.content ≡ part_at page (bytes_after segment (take turns rs) start)

-- each page of the area is what the records up to its sequence make of the bytes, and the number after all of them is
-- the last
pub record IsReplay (segment first last : ℕ) (rs : List Record) (start area : List ℕ) (pages : ℕ) : Type 0 where
  pub played : (page : ℕ) → page < pages → IsPlayed segment first rs start page (page_in area page)
  pub ends : number_after segment rs first ≡ last

-- the bytes are those of the pages of the area
pub record AreBytes (area : List ℕ) (pages : ℕ) (bytes : List ℕ) : Type 0 where
  pub len : length bytes ≡ pages * 256
  pub each : (page : ℕ) → page < pages → part_at page bytes ≡ (page_in area page).content

-- the least sequence above a number that a page of the area has
abbrev pub IsDue : List ℕ → ℕ → ℕ → Option ℕ → Type 0
IsDue area pages number None = (page : ℕ) → page < pages → (page_in area page).sequence ≤ number
IsDue area pages number (Some due) =
    (number < due) × ((page : ℕ) × (page < pages) × ((page_in area page).sequence ≡ due))
    × ((page : ℕ) → page < pages → number < (page_in area page).sequence → due ≤ (page_in area page).sequence)

-- the lesser of a sequence above the number and what was found
abbrev pub lesser : Option ℕ → ℕ → ℕ → Option ℕ
lesser None number seq = if nat_le seq number then None else Some seq
lesser (Some least) number seq = if nat_le seq number then Some least else Some (min least seq)

-- some page with this sequence is not its part of the bytes
pub record IsUnmet (area : List ℕ) (pages number : ℕ) (bytes : List ℕ) : Type 0 where
  pub page : ℕ
  pub known : page < pages
  pub here : (page_in area page).sequence ≡ number
  pub differs : (page_in area page).content ≡ part_at page bytes → ⊥

-- each page with this sequence is its part of the bytes
abbrev pub AreMet : List ℕ → ℕ → ℕ → List ℕ → Type 0
AreMet area pages number bytes = (page : ℕ) → page < pages → (page_in area page).sequence ≡ number → (page_in area page).content ≡ part_at page bytes

-- with those of a record put on that is above a number
abbrev pub above_on : ℕ → ℕ → Record → List ℕ → List ℕ
above_on segment number r bytes = if nat_lt number (number_or_zero segment r.locks) then laid_on segment r.ranges bytes else bytes

-- and of all that are
abbrev pub bytes_above : ℕ → ℕ → List Record → List ℕ → List ℕ
bytes_above segment number [] bytes = bytes
bytes_above segment number (r ∷ rs) bytes = bytes_above segment number rs (above_on segment number r bytes)
