-- What the segments of a recovered store are at a node as they come up, before they stand behind their locks.
use Rattle.std.specs.Prelude.{◌≡◌, ℕ, ◌+◌, List, Option, None, Some, if◌then◌else◌, slice_get}
use Rattle.std.specs.Global.{Vec}
use Rattle.lc_lock.specs.Loans.{key_of}
use Rattle.lc_recover.specs.Recovered.{RecoveredStore}
use Rattle.lc_node.specs.Fresh.{fresh_side, segment_bytes}
use Rattle.lc_node.specs.Shares.{has_token}
use Rattle.lc_node.specs.declared.fresh_segment.FreshSegment.{FreshSegment}

module _ {D : Type 0} where
  -- the area of a segment's pages at a node of so many: the store's, where the node has the segment's token
  abbrev pub area_of : RecoveredStore D → ℕ → ℕ → ℕ → Option D
  area_of r nodes number place = if has_token number nodes (place + 1) then slice_get r.areas (r.geometry.nodes + place) else None

  -- the segment at this place of a node has the bytes that were recovered, twice, and its token and area where they are the node's
  pub record IsFreshSegment (r : RecoveredStore D) (nodes number place : ℕ) (s : FreshSegment D) : Type 0 where
    pub image : Vec ℕ
    pub base : Vec ℕ
    pub image_bytes : image.items ≡ segment_bytes r (place + 1)
    pub base_bytes : base.items ≡ segment_bytes r (place + 1)
    pub side : s.side ≡ fresh_side r (place + 1) image base (area_of r nodes number place)

  -- the lock of each is that of the segment at its place, from segment 1 on
  abbrev pub StandInOrder : List (FreshSegment D) → Type 0
  StandInOrder segments = (place : ℕ) (s : FreshSegment D) → slice_get segments place ≡ Some s → key_of s.lock.lock ≡ place + 1
