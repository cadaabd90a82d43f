-- Of a desk: what stands ready before the pages of a store are known, and how its nodes are filled with them.
use Rattle.std.specs.Prelude.{◌≡◌, ℕ, ◌+◌, ◌%◌, ◌==◌, List, [], length, replicate, is_some, Some, slice_get}
use Rattle.std.specs.Option.{ForSome}
use Rattle.lc_record.specs.Geometry.{segment_len}
use Rattle.lc_record.specs.declared.geometry.Geometry.{Geometry}
use Rattle.lc_recover.specs.Recovered.{RecoveredStore}
use Rattle.lc_tx.specs.declared.holders.Holders.TheVariants.{Free as Unheld}
use Rattle.lc_desk.specs.Fresh.{IsFreshSlot}
use Rattle.lc_desk.specs.declared.desk.Desk.{Desk}
use Rattle.lc_desk.specs.Seat.{Free}
use Rattle.lc_desk.specs.declared.segment_copy.SegmentCopy.{SegmentCopy}

-- a slot of a segment: as many bytes, which no transaction holds, an entry for each page where the token is, and no part
pub record IsOfSegment (g : Geometry) (segment : ℕ) (slot : SegmentCopy) : Type 0 where
  pub len : length slot.image.bytes.items ≡ segment_len g
  pub holders : slot.image.holders ≡ Unheld
  pub token : slot.token.segment ≡ segment
  pub pages : ForSome slot.token.token (λ token. length token.pages ≡ g.pages)
  pub parts : slot.parts.segment ≡ segment
  pub none_due : slot.parts.due ≡ []

abbrev pub AreOfSegments : Geometry → List SegmentCopy → Type 0
AreOfSegments g slots = (k : ℕ) (slot : SegmentCopy) → slice_get slots k ≡ Some slot → IsOfSegment g (k + 1) slot

-- its token stands at the node that is the rest of its segment by their number, and only there
abbrev pub StandsAt : Geometry → ℕ → ℕ → SegmentCopy → Type 0
StandsAt g node segment slot = is_some slot.token.token ≡ (segment % g.nodes == node)

abbrev pub StandAt : Geometry → ℕ → List SegmentCopy → Type 0
StandAt g node slots = (k : ℕ) (slot : SegmentCopy) → slice_get slots k ≡ Some slot → StandsAt g node (k + 1) slot

-- no thread does anything
pub record IsBlankDesk (g : Geometry) (desk : Desk) : Type 0 where
  pub seats : desk.seats.items ≡ replicate g.threads Free
  pub count : length desk.here.slots.items ≡ g.segments
  pub slots : AreOfSegments g desk.here.slots.items
  pub spare : desk.here.spare.bytes.items ≡ []

module _ {D : Type 0} where
  abbrev pub AreFreshSlots : RecoveredStore D → ℕ → List SegmentCopy → Type 0
  AreFreshSlots r node slots = (k : ℕ) (slot : SegmentCopy) → slice_get slots k ≡ Some slot → IsFreshSlot r node (k + 1) slot
