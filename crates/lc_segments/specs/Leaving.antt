-- The token of a segment leaves a node.
use Rattle.std.specs.Prelude.{◌≡◌, ◌⊎◌, ℕ, None, Some}
use Rattle.lc_segments.specs.Journey.{Journey}
use Rattle.lc_segments.specs.SegView.{SegView}
use Rattle.lc_segments.specs.declared.page_area.PageArea.{PageArea}
use Rattle.lc_segments.specs.declared.page_area.PageArea.TheVariants.{Elsewhere, Serves, Failed}
use Rattle.lc_segments.specs.declared.node_fault.NodeFault.{NodeFault}
use Rattle.lc_segments.specs.declared.node_fault.NodeFault.TheVariants.{Halted, Token as OfToken}
use Rattle.lc_token.specs.declared.fault.TokenFault.TheVariants.{NotHere, Unflushed}

module _ {D : Type 0} where
  -- a call of the area failed
  abbrev pub HasFailed : PageArea D → Type 0
  HasFailed pages = (area : D) × (pages ≡ Failed area)

  -- the area is here, and no call of it failed
  abbrev pub IsServing : PageArea D → Type 0
  IsServing pages = (area : D) × (pages ≡ Serves area)

  -- these were the segment's token and the area of its pages
  pub record IsJourneyFrom (s : SegView D) (journey : Journey D) : Type 0 where
    pub token : s.standing.token ≡ Some journey.token
    pub segment : journey.token.segment ≡ s.segment
    pub area : s.pages ≡ Serves journey.area

  -- both are elsewhere
  abbrev pub without_token : SegView D → SegView D
  without_token s = record s { standing = record s.standing { token = None }; pages = Elsewhere }

-- why the token of this segment does not leave
abbrev pub IsUnleft : ℕ → NodeFault → Type 0
IsUnleft segment fault = (fault ≡ Halted) ⊎ ((fault ≡ OfToken (NotHere segment)) ⊎ (fault ≡ OfToken Unflushed))
