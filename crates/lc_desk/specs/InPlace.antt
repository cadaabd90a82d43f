-- What a record makes of the desk that it comes to, where its part is put on the image from where the record stands.
use Rattle.std.specs.Prelude.{◌≡◌, ℕ, ◌-◌, Some, None, slice_get}
use Rattle.std.specs.Vec.{with_item}
use Rattle.lc_token.specs.Backlog.{IsNext, PassesOn, counted}
use Rattle.lc_token.specs.declared.received.Received.{Received}
use Rattle.lc_tx.specs.declared.image.Image.{Image as Picture}
use Rattle.lc_desk.specs.declared.desk.Desk.{Desk}
use Rattle.lc_desk.specs.declared.segment_copy.SegmentCopy.{SegmentCopy}

-- the token is elsewhere, and a record with this number is the next, while none is held back
abbrev pub TakesAtOnce : ℕ → SegmentCopy → Type 0
TakesAtOnce number slot = (slot.token.token ≡ None) × IsNext slot.parts number

-- nothing has changed but that this stands in the place of the segment's slot
pub record HasSlot (segment : ℕ) (slot next : SegmentCopy) (old new : Desk) : Type 0 where
  pub at : slice_get old.here.slots.items (segment - 1) ≡ Some slot
  pub here : new.here ≡ record old.here { slots = with_item old.here.slots (segment - 1) next }
  pub seats : new.seats ≡ old.seats

-- the image of the segment's slot is taken out, and another stands there
pub record LendsImage (segment : ℕ) (old : Desk) (image : Picture) (new : Desk) : Type 0 where
  pub slot : SegmentCopy
  pub other : Picture
  pub own : image ≡ slot.image
  pub has : HasSlot segment slot (record slot { image = other }) old new

-- the image stands in the segment's slot, which has counted the number, as if its part had been received and handed out
pub record PutsNext (segment number : ℕ) (image : Picture) (old : Desk) (answer : Received) (new : Desk) : Type 0 where
  pub slot : SegmentCopy
  pub passes : PassesOn number slot.parts answer (counted slot.parts number)
  pub has : HasSlot segment slot (record slot { image = image; parts = counted slot.parts number }) old new
