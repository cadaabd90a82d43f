-- The token of a segment arrives at a node.
use Rattle.std.specs.Prelude.{◌≡◌, ◌+◌, ◌*◌, None, Some, length}
use Rattle.lc_segments.specs.Journey.{Journey}
use Rattle.lc_segments.specs.SegView.{SegView}
use Rattle.lc_segments.specs.declared.page_area.PageArea.TheVariants.{Serves}

module _ {D : Type 0} where
  -- the token may arrive: none is here, it is of the segment and has as many pages, and the node has applied just the records
  -- that it has seen
  abbrev pub MayArrive : SegView D → Journey D → Type 0
  MayArrive s j = (s.standing.token ≡ None) × (j.token.segment ≡ s.segment) × (j.token.seq ≡ s.backlog.applied) × (length s.base ≡ length j.token.pages * 256)

  -- it is here with its area, no page of which was written under a later number
  abbrev pub with_token : Journey D → SegView D → SegView D
  with_token j s = record s { standing = record s.standing { token = Some j.token }; pages = Serves j.area; since = j.token.seq + 1 }
