-- Of nodes that run: what an event does that a node's thread asks for, layer by layer of a store.
use Rattle.std.specs.Prelude.{◌≡◌, true, false, Result, IfOk, OnErr}
use Rattle.std.specs.declared.alloc.AllocError.{AllocError}
use Rattle.lc_disk.specs.declared.area.Area.{Ghosts}
use Rattle.lc_model.specs.declared.event.Event.{Event}
use Rattle.lc_model.specs.declared.reply.Reply.{Reply}
use Rattle.lc_events.specs.Faults.{CountsLogs, SameLogs}
use Rattle.lc_events.specs.Geometries.{RefusesUnknown}
use Rattle.lc_events.specs.MayReply.{may_reply}
use Rattle.lc_events.specs.Running.{StillFitsAll}
use Rattle.lc_events.specs.Stepping.{AsksMemory, FollowsStep}
use Rattle.lc_events.specs.declared.running.Running.{Running}

module _ {D : Type 0} (a : Ghosts D) where
  -- the nodes; no page is being written that the event asks of
  pub record StepsRunning (old : Running D a) (event : Event) (reply : Reply) (new : Running D a) : Type 0 where
    pub follows : FollowsStep a false old event reply new
    pub counts : CountsLogs a old event reply new
    pub unknown : RefusesUnknown old.geometry event reply
    pub names : may_reply event reply ≡ true

  -- The same where memory may be wanted: nothing has changed then

  pub record TriesRunning (old : Running D a) (event : Event) (result : Result Reply AllocError) (new : Running D a) : Type 0 where
    pub steps : IfOk result (λ reply. StepsRunning old event reply new)
    pub memory : OnErr result (AsksMemory a old event)
    pub err : OnErr result (StillFitsAll a old new)
    pub no_fault : OnErr result (SameLogs a old new)
