-- Of the store: what an event does that a node's thread asks for, layer by layer of a store.
use Rattle.std.specs.Prelude.{◌≡◌, true, Result, IfOk, OnErr}
use Rattle.std.specs.declared.alloc.AllocError.{AllocError}
use Rattle.lc_disk.specs.declared.area.Area.{Ghosts}
use Rattle.lc_model.specs.declared.event.Event.{Event}
use Rattle.lc_model.specs.declared.reply.Reply.{Reply}
use Rattle.lc_core.specs.Calls.{CallsArea, KeepsAreas}
use Rattle.lc_core.specs.Faults.{CountsPhase, phase_failures}
use Rattle.lc_events.specs.Geometries.{RefusesUnknown}
use Rattle.lc_events.specs.MayReply.{may_reply}
use Rattle.lc_events.specs.Stepping.{AsksMemory}
use Rattle.lc_core.specs.World.{FollowsUp, StillFitsUp}
use Rattle.lc_core.specs.declared.world_phase.WorldPhase.TheVariants.{Up}
use Rattle.lc_core.specs.declared.up.Up.{Up as UpStore}

module _ {D : Type 0} (a : Ghosts D) where
  -- and the segments beside them
  pub record StepsUp (old : UpStore D a) (event : Event) (reply : Reply) (new : UpStore D a) : Type 0 where
    pub follows : FollowsUp a old event reply new
    pub faults : CountsPhase a (Up old) reply (Up new)
    pub geometry : new.running.geometry ≡ old.running.geometry
    pub unknown : RefusesUnknown old.running.geometry event reply
    pub calls : CallsArea a (Up old) event reply (Up new)
    pub names : may_reply event reply ≡ true

  pub record TriesUp (old : UpStore D a) (event : Event) (result : Result Reply AllocError) (new : UpStore D a) : Type 0 where
    pub steps : IfOk result (λ reply. StepsUp old event reply new)
    pub memory : OnErr result (AsksMemory a old.running event)
    pub err : OnErr result (StillFitsUp a old new)
    pub no_fault : OnErr result (phase_failures a (Up new) ≡ phase_failures a (Up old))
    pub geometry : OnErr result (new.running.geometry ≡ old.running.geometry)
    pub kept : OnErr result (KeepsAreas a (Up old) (Up new))
