-- What a script prints over these areas.
use Rattle.std.specs.Prelude.{◌≡◌, ℕ, List, Option}
use Rattle.lc_disk.specs.declared.area.Area.{Ghosts}
use Rattle.lc_record.specs.declared.geometry.Geometry.{Geometry}
use Rattle.lc_model.specs.State.{Setting, first_state}
use Rattle.lc_recover.specs.Reads.{AllMergeTo, AreHonest, HaveLengths}
use Rattle.lc_settled.specs.Numbers.{Numbers}
use Rattle.lc_look.specs.Printed.{Adds}
use Rattle.lc_tool.specs.Script.{Given, RunsScript}

module _ {D : Type 0} (a : Ghosts D) where
  -- whatever a stop leaves of them merges to the content at the start, and to these numbers
  pub record AreKnown (m : Setting) (areas : List D) (x : Numbers) : Type 0 where
    pub lengths : HaveLengths a m.geometry areas
    pub honest : AreHonest a areas
    pub merges : AllMergeTo a m.geometry areas m.start x.disks.numbers
    pub first : x.steps ≡ 0

  -- whatever they merge to
  abbrev pub RunsStore : Geometry → List D → Given → Option (List ℕ) → Option (List ℕ) → ℕ → Type 0
  RunsStore g areas script held holds status =
      (m : Setting) (x : Numbers) → m.geometry ≡ g → AreKnown m areas x → Adds (RunsScript m (first_state g) x script) held holds status
