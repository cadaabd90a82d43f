-- What a step of a recovery leaves that was not made.
use Rattle.std.specs.Prelude.{◌≡◌, List, [], None}
use Rattle.lc_disk.specs.declared.area.Area.{Ghosts}
use Rattle.lc_record.specs.declared.geometry.Geometry.{Geometry}
use Rattle.lc_recover.specs.RecoveryPhase.{Fits}
use Rattle.lc_recover.specs.Steps.{steps_of, pages_in, pages_left, pages_kept, HasNext}
use Rattle.lc_recover.specs.declared.fault.RecoverFault.TheVariants.{NoMemory}
use Rattle.lc_recover.specs.declared.recovery_phase.RecoveryPhase.{RecoveryPhase}
use Rattle.lc_recover.specs.declared.stopped.Stopped.{Stopped}

-- where memory was wanted nothing has changed, else the first sync is next
pub record IsStopped {D : Type 0} (a : Ghosts D) (g : Geometry) (stage : RecoveryPhase) (olds news : List D) (stopped : Stopped) : Type 0 where
  pub fits : Fits a g stopped.stage news
  pub next : HasNext g stopped.stage
  pub pages : pages_in stopped.stage ≡ None
  pub kept : pages_kept stopped.stage ≡ []
  pub left : pages_left stopped.stage ≡ []
  pub same : stopped.fault ≡ NoMemory → (news ≡ olds) × (steps_of g stopped.stage ≡ steps_of g stage)
  pub again : (stopped.fault ≡ NoMemory → ⊥) → steps_of g stopped.stage ≡ 0
