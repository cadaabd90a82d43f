-- Of the store: the geometry of a store, and what it refuses as unknown.
use Rattle.std.specs.Prelude.{◌≢◌, Option, None, Some}
use Rattle.lc_disk.specs.declared.area.Area.{Ghosts}
use Rattle.lc_record.specs.declared.geometry.Geometry.{Geometry}
use Rattle.lc_model.specs.declared.event.Event.{Event}
use Rattle.lc_model.specs.declared.refusal.Refusal.TheVariants.{Unknown}
use Rattle.lc_model.specs.declared.reply.Reply.{Reply}
use Rattle.lc_model.specs.declared.reply.Reply.TheVariants.{Refused}
use Rattle.lc_core.specs.declared.world_phase.WorldPhase.{WorldPhase}
use Rattle.lc_core.specs.declared.world_phase.WorldPhase.TheVariants.{Down, Up, Taken}
use Rattle.lc_events.specs.Geometries.{RefusesUnknown}

module _ {D : Type 0} (a : Ghosts D) where
  -- how many there are of each thing
  abbrev pub phase_geometry : WorldPhase D a → Option Geometry
  phase_geometry (Down recovery) = Some recovery.geometry
  phase_geometry (Up up) = Some up.running.geometry
  phase_geometry Taken = None

  -- a store that is down refuses nothing as unknown
  abbrev pub RefusesOutside : WorldPhase D a → Event → Reply → Type 0
  RefusesOutside (Up up) event reply = RefusesUnknown up.running.geometry event reply
  RefusesOutside (Down recovery) event reply = reply ≢ Refused Unknown
  RefusesOutside Taken event reply = reply ≢ Refused Unknown
