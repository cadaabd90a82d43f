-- Of nodes that run: the geometry of a store, and what it refuses as unknown.
use Rattle.std.specs.Prelude.{◌≡◌, ◌≢◌, Bool, true, false}
use Rattle.lc_record.specs.declared.geometry.Geometry.{Geometry}
use Rattle.lc_model.specs.Refusals.{is_known}
use Rattle.lc_model.specs.declared.event.Event.{Event}
use Rattle.lc_model.specs.declared.event.Event.TheVariants.{Deliver}
use Rattle.lc_model.specs.declared.refusal.Refusal.TheVariants.{Unknown}
use Rattle.lc_model.specs.declared.reply.Reply.{Reply}
use Rattle.lc_model.specs.declared.reply.Reply.TheVariants.{Refused}

abbrev pub is_delivery : Event → Bool
is_delivery (Deliver sender number segment to) = true
is_delivery event = false

-- what names something outside of the geometry is refused as unknown, and nothing else is, but for a delivery, of which the
-- sender may not have the record
pub record RefusesUnknown (g : Geometry) (event : Event) (reply : Reply) : Type 0 where
  pub outside : is_known g event ≡ false → reply ≡ Refused Unknown
  pub inside : is_known g event ≡ true → is_delivery event ≡ false → reply ≢ Refused Unknown
