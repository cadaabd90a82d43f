-- Of a segment: what a cluster leaves once its threads have ended.
use Rattle.std.specs.Prelude.{◌≡◌, ◌<◌, ℕ, ◌++◌, List, [], ◌∷◌, Option, Some, None, length}
use Rattle.lc_disk.specs.declared.area.Area.{Ghosts}
use Rattle.lc_page.specs.PageVector.{entry_at, entry_text}
use Rattle.lc_page.specs.PageWrite.{SettledIn}
use Rattle.lc_token.specs.declared.token.Token.{Token}
use Rattle.lc_rest.specs.declared.holder.Holder.TheVariants.{Here, Left}
use Rattle.lc_rest.specs.declared.segment_part.SegmentPart.{SegmentPart}
use Rattle.lc_segments.specs.Journey.{Journey}
use Rattle.lc_segments.specs.SegView.{SegView}
use Rattle.lc_segments.specs.declared.page_area.PageArea.{PageArea}
use Rattle.lc_segments.specs.declared.page_area.PageArea.TheVariants.{Elsewhere, Serves, Failed}

-- Segments

module _ {D : Type 0} where
  -- this is the area that is at a node, if one is; no call of it failed
  abbrev pub IsServingArea : PageArea D → Option D → Type 0
  IsServingArea Elsewhere here = here ≡ None
  IsServingArea (Serves area) here = here ≡ Some area
  IsServingArea (Failed area) here = ⊥

  -- the token that stands at a node, with the area of the pages, of which no call failed
  abbrev pub token_here : ℕ → PageArea D → Option Token → List (SegmentPart D)
  token_here node Elsewhere token = []
  token_here node (Failed area) token = []
  token_here node (Serves area) None = []
  token_here node (Serves area) (Some token) = record { token = token; area = area; holder = Here node } ∷ []

  -- a token on its way
  abbrev pub token_sent : Journey D → SegmentPart D
  token_sent journey = record { token = journey.token; area = journey.area; holder = Left journey.left }

  abbrev pub token_waiting : Option (Journey D) → List (SegmentPart D)
  token_waiting None = []
  token_waiting (Some journey) = token_sent journey ∷ []

  -- the tokens that a segment has at a node: the one that stands there, and the one that waits there
  abbrev pub tokens_at : ℕ → SegView D → List (SegmentPart D)
  tokens_at node side = token_here node side.pages side.standing.token ++ token_waiting side.waiting

  -- a call of the area failed
  abbrev pub HasFailed : PageArea D → Type 0
  HasFailed Elsewhere = ⊥
  HasFailed (Serves area) = ⊥
  HasFailed (Failed area) = Unit {0}

module _ {D : Type 0} (a : Ghosts D) where
  -- in every image the area says of each page what its entry does, and nobody refers to a page
  pub record IsSettledPart (part : SegmentPart D) : Type 0 where
    pub settled : (page : ℕ) → page < length part.token.pages → SettledIn a part.area page (entry_text (entry_at part.token.pages page))
    pub free : (page : ℕ) → page < length part.token.pages → (entry_at part.token.pages page).uncommitted ≡ 0
