-- Of a segment: how the sides of held segments go through a commit.
use Rattle.std.specs.Prelude.{List, unwrap_or, ◌≡◌, ℕ, ◌+◌, ◌<◌, ◌≤◌, ◌^◌, [], ◌∷◌, ◌++◌, length, Option, Some, None, IsSomeAnd}
use Rattle.lc_record.specs.declared.part.Part.{Part}
use Rattle.lc_range.specs.RangeSet.{EndWithin}
use Rattle.lc_range.specs.declared.range.Range.{Range}
use Rattle.lc_applied.specs.AppliedParts.{part_of_runs, runs_of, HasRoomFor, laid_parts}
use Rattle.lc_token.specs.declared.token.Token.{Token}
use Rattle.lc_token.specs.Backlog.{counted}
use Rattle.lc_tx.specs.declared.holders.Holders.TheVariants.{Free}
use Rattle.lc_segments.specs.SegView.{SegView, applied_in}
use Rattle.lc_segments.specs.Touched.{touched_pages}
use Rattle.lc_segments.specs.declared.held.HeldSide.{HeldSide}
use Rattle.lc_segments.specs.declared.lent.LentSlot.{LentSlot}

abbrev pub number_in : Option Token → Option ℕ
number_in None = None
number_in (Some token) = Some token.seq

-- this, where there is one of those
abbrev pub if_any : {A B : Type 0} → List A → B → Option B
if_any [] x = None
if_any (one ∷ more) x = Some x

-- a record of the segment with this part more, which touches its pages
abbrev pub next_token : Part → Option Token → Option Token
next_token part None = None
next_token part (Some token) = Some (record token { seq = token.seq + 1; pages = touched_pages part.ranges (token.seq + 1) token.pages })

-- the part is the next of the segment, whose token is here
abbrev pub IsNext : Part → Option Token → Type 0
IsNext part token = IsSomeAnd token (λ t. (part.seq ≡ t.seq + 1) × (t.seq < 2 ^ 60))

module _ {D : Type 0} where
  -- a record with this part was closed
  abbrev pub counting : Part → SegView D → SegView D
  counting part s = record s {
    applied = s.applied ++ part ∷ [];
    backlog = counted s.backlog part.seq;
    standing = record s.standing { token = next_token part s.standing.token };
  }

  -- the slot has the image that the side had, free, with the applied parts on it; the segment is one of 16 and has 262,144 bytes at most
  pub record IsOut (h : HeldSide D) (s : LentSlot) : Type 0 where
    pub segment : s.segment ≡ h.side.segment
    pub number : s.number ≡ number_in h.side.standing.token
    pub image : h.side.image ≡ Some s.image
    pub shows : s.image.bytes.items ≡ laid_parts h.side.applied h.side.base
    pub free : s.image.holders ≡ Free
    pub first : 1 ≤ s.segment
    pub last : s.segment ≤ 16
    pub short : length s.image.bytes.items ≤ 262144

  -- the part that these runs have of a segment may be counted: there is room for it, and where it has runs the token is here and has
  -- a number more
  pub record MayCount (runs : List Range) (image : List ℕ) (s : SegView D) : Type 0 where
    pub lent : s.image ≡ None
    pub room : HasRoomFor s.segment runs (applied_in s)
    pub within : EndWithin (runs_of s.segment runs) (length image)
    pub next : (runs_of s.segment runs ≡ [] → ⊥) → IsSomeAnd s.standing.token (λ t. t.seq < 2 ^ 60)

  -- the part is counted, if there is one
  abbrev pub Counts : Option Part → SegView D → SegView D → Type 0
  Counts None s t = t ≡ s
  Counts (Some part) s t = t ≡ record (counting part s) { room = t.room; runs_room = t.runs_room }

  -- the part that these runs have of a segment under the next number of its token, with the bytes of this image; none, where they
  -- have no run there
  abbrev pub part_for : List Range → List ℕ → SegView D → Option Part
  part_for runs image s = if_any (runs_of s.segment runs) (part_of_runs s.segment (unwrap_or (number_in s.standing.token) 0 + 1) runs image)
