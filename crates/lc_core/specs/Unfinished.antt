-- Of the store: what a stop of a store would lose.
use Rattle.lc_disk.specs.declared.area.Area.{Ghosts}
use Rattle.lc_core.specs.declared.world_phase.WorldPhase.{WorldPhase}
use Rattle.lc_core.specs.declared.world_phase.WorldPhase.TheVariants.{Down, Up, Taken}
use Rattle.lc_events.specs.declared.unfinished.Unfinished.{Unfinished}
use Rattle.lc_events.specs.Unfinished.{unfinished_at}

module _ {D : Type 0} (a : Ghosts D) where
  -- those of a store; none while it is down
  abbrev pub unfinished_of : WorldPhase D a → Unfinished
  unfinished_of (Up up) = (unfinished_at a) up.running.nodes.items
  unfinished_of (Down recovery) = record { commits = 0; transactions = 0 }
  unfinished_of Taken = record { commits = 0; transactions = 0 }
