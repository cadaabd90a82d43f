-- A store whose areas have been read: what they read as is where the machine begins, whatever was known of them before.
use Rattle.std.specs.Prelude.{◌≡◌, ℕ}
use Rattle.lc_disk.specs.declared.area.Area.{Ghosts}
use Rattle.lc_record.specs.Content.{Content}
use Rattle.lc_record.specs.declared.geometry.Geometry.{Geometry}
use Rattle.lc_model.specs.State.{first_state}
use Rattle.lc_settled.specs.Numbers.{Numbers}
use Rattle.lc_core.specs.World.{FitsPhase}
use Rattle.lc_core.specs.declared.world_phase.WorldPhase.{WorldPhase}

module _ {D : Type 0} (a : Ghosts D) where
  pub record StartsAnew (g : Geometry) (steps : ℕ) (new : WorldPhase D a) : Type 0 where
    pub content : Content
    pub numbers : ℕ → ℕ
    pub fits : (x : Numbers) → x.disks.numbers ≡ numbers → x.steps ≡ steps
        → FitsPhase a (record { geometry = g; start = content }) new (first_state g) x
