-- What a page write puts in place, and what its end makes of a desk.
use Rattle.std.specs.Prelude.{◌≡◌, ◌<◌, ◌≤◌, ℕ, ◌-◌, ◌^◌, Bool, Some, length, slice_get}
use Rattle.lc_page.specs.PageVector.{entry_at, entry_text}
use Rattle.lc_page.specs.PageWrite.{IsBegun}
use Rattle.lc_page.specs.declared.draft.Draft.{Draft}
use Rattle.lc_token.specs.Token.{IsWritten}
use Rattle.lc_token.specs.declared.token.Token.{Token}
use Rattle.lc_desk.specs.Leaves.{HasToken}
use Rattle.lc_desk.specs.Showing.{page_of}
use Rattle.lc_desk.specs.declared.desk.Desk.{Desk}
use Rattle.lc_desk.specs.declared.segment_copy.SegmentCopy.{SegmentCopy}

-- the page is one of the slot's, nothing holds it, and the token's number can be a page's
pub record MayDraft (page : ℕ) (token : Token) (slot : SegmentCopy) : Type 0 where
  pub within : page < length token.pages
  pub small : token.seq ≤ 2 ^ 60
  pub free : (entry_at token.pages page).uncommitted ≡ 0
  pub whole : length (page_of slot.image.bytes.items page) ≡ 256

-- the page as it is in the slot, under the token's number, which is above the one on the disk
pub record IsDraft (page : ℕ) (token : Token) (slot : SegmentCopy) (draft : Draft) (gate : Bool) : Type 0 where
  pub page_is : draft.page ≡ page
  pub seq_is : draft.seq ≡ token.seq
  pub bytes_are : draft.bytes ≡ page_of slot.image.bytes.items page
  pub newer : (entry_at token.pages page).stable < token.seq
  pub begun : IsBegun draft gate (entry_text (entry_at token.pages page))

-- where the segment's token stands, it knows that the page is written, and nothing else has changed
abbrev pub NotesWritten : ℕ → ℕ → ℕ → Desk → Desk → Type 0
NotesWritten segment page number old new =
    (slot : SegmentCopy) (token : Token) → slice_get old.here.slots.items (segment - 1) ≡ Some slot → slot.token.token ≡ Some token → page < length token.pages
    → (after : Token) × IsWritten token page number after × HasToken segment slot (Some after) old new
