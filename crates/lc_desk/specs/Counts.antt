-- What a closed record makes of the slots of the segments that it has ranges of.
use Rattle.std.specs.Prelude.{◌≡◌, ◌<◌, ℕ, ◌+◌, ◌*◌, ◌^◌, ◌&&◌, ◌==◌, nat_lt, Bool, List, length, Option, Some, None, MatchBool, MatchOption, slice_get, if◌then◌else◌}
use Rattle.std.specs.List.{list_any}
use Rattle.lc_page.specs.PageVector.{entry_at, touched_at}
use Rattle.lc_range.specs.declared.range.Range.{Range}
use Rattle.lc_token.specs.Backlog.{counted}
use Rattle.lc_token.specs.declared.token.Token.{Token}
use Rattle.lc_desk.specs.declared.segment_copy.SegmentCopy.{SegmentCopy}

-- some range is of this segment
abbrev pub names : ℕ → List Range → Bool
names segment ranges = list_any (λ r. r.segment == segment) ranges

-- len positions from offset on have one on this page
abbrev pub is_on : ℕ → ℕ → ℕ → Bool
is_on offset len page = nat_lt offset (page * 256 + 256) && nat_lt (page * 256) (offset + len)

-- some range has a position on this page of it
abbrev pub names_page : ℕ → ℕ → List Range → Bool
names_page segment page ranges = list_any (λ r. (r.segment == segment) && is_on r.offset r.len page) ranges

-- the token that stands in a slot, where it has not used its last number, 2^60, and the node has applied all that it has seen
abbrev pub countable_if : ℕ → Token → Option Token
countable_if applied token = if nat_lt token.seq (2 ^ 60) && (token.seq == applied) then Some token else None

abbrev pub countable_in : ℕ → Option Token → Option Token
countable_in applied None = None
countable_in applied (Some token) = countable_if applied token

abbrev pub countable : SegmentCopy → Option Token
countable slot = countable_in slot.parts.applied slot.token.token

-- the slot once its token has the next number, which the node has applied
abbrev pub counting : Token → SegmentCopy → SegmentCopy
counting token slot = record slot {
  token = record slot.token { token = Some (record token { seq = token.seq + 1 }) };
  parts = counted slot.parts (token.seq + 1);
}

-- the token whose pages with one of len positions from offset on are changed under its number
pub record TouchesToken (offset len : ℕ) (old new : Token) : Type 0 where
  pub same_segment : new.segment ≡ old.segment
  pub same_seq : new.seq ≡ old.seq
  pub same_clean : new.clean ≡ old.clean
  pub same_count : length new.pages ≡ length old.pages
  pub entries : (page : ℕ) → page < length old.pages
      → entry_at new.pages page ≡ (if is_on offset len page then touched_at (entry_at old.pages page) old.seq else entry_at old.pages page)

-- and the slot, where it stands
pub record TouchesSlot (offset len : ℕ) (token : Token) (old new : SegmentCopy) : Type 0 where
  pub after : Token
  pub slot_is : new ≡ record old { token = record old.token { token = Some after } }
  pub touches : TouchesToken offset len token after

-- the token with the next number, under which the pages of these ranges are changed
pub record CountsToken (segment : ℕ) (ranges : List Range) (old new : Token) : Type 0 where
  pub same_segment : new.segment ≡ old.segment
  pub same_clean : new.clean ≡ old.clean
  pub next : new.seq ≡ old.seq + 1
  pub same_count : length new.pages ≡ length old.pages
  pub entries : (page : ℕ) → page < length old.pages
      → entry_at new.pages page ≡ (if names_page segment page ranges then touched_at (entry_at old.pages page) (old.seq + 1) else entry_at old.pages page)

-- and the slot, which has applied it
pub record CountsSlot (segment : ℕ) (ranges : List Range) (token : Token) (old new : SegmentCopy) : Type 0 where
  pub same_image : new.image ≡ old.image
  pub after : Token
  pub token_is : new.token ≡ record old.token { token = Some after }
  pub counts : CountsToken segment ranges token after
  pub parts_are : new.parts ≡ counted old.parts (token.seq + 1)

-- a slot of a segment without a range stays, and so does one whose token cannot count
abbrev pub Counts : ℕ → List Range → SegmentCopy → SegmentCopy → Type 0
Counts segment ranges old new =
    MatchBool (names segment ranges) (MatchOption (countable old) (new ≡ old) (λ token. CountsSlot segment ranges token old new)) (new ≡ old)

-- each slot, the first of which is of segment 1
pub record CountsAll (ranges : List Range) (old new : List SegmentCopy) : Type 0 where
  pub same_length : length new ≡ length old
  pub each : (k : ℕ) (slot : SegmentCopy) → slice_get old k ≡ Some slot → (after : SegmentCopy) × (slice_get new k ≡ Some after) × Counts (k + 1) ranges slot after
