-- Of a node: where what a cluster leaves is refused, and by which fault.
use Rattle.std.specs.Prelude.{◌≡◌, ◌≢◌, ◌⊎◌, ◌<◌, ◌≤◌, ◌*◌, ◌==◌, ℕ, List, Option, Some, IsSomeAnd, find, length, option_map, position, remove, slice_get}
use Rattle.lc_disk.specs.declared.area.Area.{Ghosts}
use Rattle.lc_record.specs.declared.geometry.Geometry.{Geometry}
use Rattle.lc_rest.specs.AtRest.{IsFirst}
use Rattle.lc_rest.specs.declared.cluster_part.ClusterPart.TheVariants.{Seat, Log, Token}
use Rattle.lc_rest.specs.declared.segment_part.SegmentPart.{SegmentPart}
use Rattle.lc_segments.specs.declared.node_fault.NodeFault.{NodeFault}
use Rattle.lc_segments.specs.declared.node_fault.NodeFault.TheVariants.{Mismatch, NoMemory}

-- a fault of the node with this number: of its seats or its log, or that there is no memory
abbrev pub StopsNode : ℕ → NodeFault → Type 0
StopsNode node (Mismatch (Seat n)) = n ≡ node
StopsNode node (Mismatch (Log n)) = n ≡ node
StopsNode node NoMemory = Unit {0}
StopsNode node other = ⊥

-- Tokens

module _ {D : Type 0} where
  -- the first of these tokens that is one of the segment
  abbrev pub first_of : ℕ → List (SegmentPart D) → Option (SegmentPart D)
  first_of segment tokens = find (λ (part : SegmentPart D). part.token.segment == segment) tokens

  -- the first token of the segment is taken out
  abbrev pub TakesOut : ℕ → List (SegmentPart D) → List (SegmentPart D) → Type 0
  TakesOut segment old new = (place : ℕ) × (position (λ (part : SegmentPart D). part.token.segment == segment) old ≡ Some place) × (new ≡ remove old place)

  -- the token at this place is the first of a segment of the geometry
  pub record IsFirstOfItsSegment (g : Geometry) (tokens : List (SegmentPart D)) (place : ℕ) : Type 0 where
    pub part : SegmentPart D
    pub here : slice_get tokens place ≡ Some part
    pub from : 1 ≤ part.token.segment
    pub within : part.token.segment ≤ g.segments
    pub before : (other : ℕ) (another : SegmentPart D) → other < place → slice_get tokens other ≡ Some another → another.token.segment ≢ part.token.segment

  -- of the tokens the first that is left over, where the first of each segment of the geometry is taken out, is one of this segment
  pub record IsLeftOver (g : Geometry) (tokens : List (SegmentPart D)) (segment : ℕ) : Type 0 where
    pub place : ℕ
    pub first : IsFirst (IsFirstOfItsSegment g tokens) 0 place
    pub of_segment : option_map (λ (part : SegmentPart D). part.token.segment) (slice_get tokens place) ≡ Some segment

module _ {D : Type 0} (a : Ghosts D) where
  -- the token has as many pages as the segments of the geometry, and its area the slots of as many
  pub record HasPages (g : Geometry) (part : SegmentPart D) : Type 0 where
    pub entries : length part.token.pages ≡ g.pages
    pub area : length (a.now part.area) ≡ 2 * 272 * g.pages

  -- there is a token of the segment, and the first one has its pages
  abbrev pub HasToken : Geometry → List (SegmentPart D) → ℕ → Type 0
  HasToken g tokens segment = IsSomeAnd (first_of segment tokens) (HasPages g)

  -- why tokens are refused: the first segment that has none with its pages; where each has one, what is left over; or that there is
  -- no memory
  abbrev pub StopsTokens : Geometry → List (SegmentPart D) → NodeFault → Type 0
  StopsTokens g tokens (Mismatch (Token segment)) = ((segment ≤ g.segments) × IsFirst (HasToken g tokens) 1 segment)
      ⊎ (((s : ℕ) → 1 ≤ s → s ≤ g.segments → HasToken g tokens s) × IsLeftOver g tokens segment)
  StopsTokens g tokens NoMemory = Unit {0}
  StopsTokens g tokens other = ⊥

-- The cluster

-- a fault of what the threads of a cluster of this geometry left, before a store is made of it: of a node's seats or its log, of a
-- token, or that there is no memory
abbrev pub StopsParts : Geometry → NodeFault → Type 0
StopsParts g (Mismatch (Seat node)) = node < g.nodes
StopsParts g (Mismatch (Log node)) = node < g.nodes
StopsParts g (Mismatch (Token segment)) = Unit {0}
StopsParts g NoMemory = Unit {0}
StopsParts g other = ⊥
