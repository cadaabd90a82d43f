-- What a stop makes of a store.
use Rattle.std.specs.Prelude.{◌≡◌, ℕ, true, List, [], Some, slice_get, slice_index_or}
use Rattle.lc_disk.specs.declared.area.Area.{Ghosts}
use Rattle.lc_disk.specs.declared.choice.Choice.{Choice}
use Rattle.lc_record.specs.declared.geometry.Geometry.{Geometry}
use Rattle.lc_recover.specs.Recovery.{begun}
use Rattle.lc_core.specs.Areas.{AreOf, AreStopped}
use Rattle.lc_core.specs.declared.world_phase.WorldPhase.{WorldPhase}
use Rattle.lc_core.specs.declared.world_phase.WorldPhase.TheVariants.{Down, Up, Taken}

module _ {D : Type 0} (a : Ghosts D) where
  -- a store has these areas, in their order
  abbrev pub HasAreas : WorldPhase D a → Geometry → List D → Type 0
  HasAreas (Down recovery) g areas = (g ≡ recovery.geometry) × (areas ≡ recovery.areas)
  HasAreas (Up up) g areas = (g ≡ up.running.geometry) × AreOf a up areas
  HasAreas Taken g areas = ⊥

  -- each of its areas was stopped, and a recovery begins on them
  pub record Stops (old new : WorldPhase D a) : Type 0 where
    pub geometry : Geometry
    pub olds : List D
    pub news : List D
    pub were : HasAreas old geometry olds
    pub stopped : AreStopped a olds news
    pub recovers : new ≡ Down (begun geometry news)

  abbrev pub StopsAll : WorldPhase D a → WorldPhase D a → Type 0
  StopsAll (Down recovery) new = Stops (Down recovery) new
  StopsAll (Up up) new = Stops (Up up) new
  StopsAll Taken new = new ≡ Taken

  -- each of these areas that is honest reads then as a stop by the choices at its place leaves it; one that has none there is
  -- stopped by no choice
  abbrev pub AreLeftBy : (D → List Choice → ℕ → ℕ) → List (List Choice) → List D → List D → Type 0
  AreLeftBy left choices olds news = (k : ℕ) (old new : D) → slice_get olds k ≡ Some old → slice_get news k ≡ Some new
      → a.honest old ≡ true → (at : ℕ) → slice_index_or (a.now new) at 0 ≡ left old (slice_index_or choices k []) at

  -- so are the areas of a store
  abbrev pub IsLeftBy : (D → List Choice → ℕ → ℕ) → List (List Choice) → WorldPhase D a → WorldPhase D a → Type 0
  IsLeftBy left choices old new = (g h : Geometry) (olds news : List D) → HasAreas old g olds → HasAreas new h news
      → AreLeftBy left choices olds news
