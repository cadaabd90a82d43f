-- What becomes of the areas of a store that is opened.
use Rattle.std.specs.Prelude.{◌≡◌, ◌⊎◌, ◌<◌, ℕ, List, Option, Some, None, Result, Ok, Err}
use Rattle.lc_disk.specs.declared.area.Area.{Ghosts}
use Rattle.lc_record.specs.declared.geometry.Geometry.{Geometry}
use Rattle.lc_model.specs.declared.refusal.Refusal.{Refusal}
use Rattle.lc_recover.specs.Recovery.{begun}
use Rattle.lc_recover.specs.declared.fault.RecoverFault.{RecoverFault}
use Rattle.lc_core.specs.ComingUp.{ComesUpBy}
use Rattle.lc_core.specs.Lives.{IsNewborn}
use Rattle.lc_recover.specs.Fault.{refusal_to}
use Rattle.lc_events.specs.declared.call_fault.CallFault.{CallFault}
use Rattle.lc_events.specs.declared.call_fault.CallFault.TheVariants.{NoMemory, Refused}
use Rattle.lc_core.specs.declared.world_phase.WorldPhase.TheVariants.{Down}
use Rattle.lc_core.specs.declared.world.World.{World}
use Rattle.lc_folder.specs.declared.sizing.SizeFault.{SizeFault}
use Rattle.lc_folder.specs.declared.sizing.SizeFault.TheVariants.{Misfit as Misfits, Folder as SizeFolder}
use Rattle.lc_folder.specs.declared.sizing.Unopened.{Unopened}
use Rattle.lc_folder.specs.declared.sizing.Unopened.TheVariants.{Folder as NoFolder, OtherSize}
use Rattle.lc_look.specs.Recovers.{Explains}
use Rattle.lc_look.specs.Refused.{IsFirstWrong}
use Rattle.lc_store.specs.declared.store_open_fault.StoreOpenFault.{StoreOpenFault}
use Rattle.lc_store.specs.declared.store_open_fault.StoreOpenFault.TheVariants.{BadGeometry, BadThreads, Folder, NoStore, NotUp}

-- a node has at least one thread, and at most 16
abbrev pub IsNoThreadCount : ℕ → Type 0
IsNoThreadCount threads = (threads ≡ 0) ⊎ (16 < threads)

-- what a fault of a recovery is as one of a call: the refusal of the same name and fields
abbrev pub as_refused : Option Refusal → CallFault
as_refused None = NoMemory
as_refused (Some refusal) = Refused refusal

abbrev pub of_recovery : RecoverFault → CallFault
of_recovery fault = as_refused (refusal_to fault)

-- a store that is not opened in its folder
abbrev pub of_unopened : Unopened → StoreOpenFault
of_unopened (NoFolder fault) = Folder fault
of_unopened (OtherSize area) = BadGeometry area

-- a folder that tells no size
abbrev pub of_size : SizeFault → StoreOpenFault
of_size (Misfits misfit) = NoStore misfit
of_size (SizeFolder fault) = Folder fault

module _ {D : Type 0} (a : Ghosts D) where
  -- the store of these areas was down, and this is what came of its recovery
  pub record ComesUpOn (g : Geometry) (areas : List D) (result : Result (Unit {0}) CallFault) (new : World D a) : Type 0 where
    pub down : World D a
    pub was_down : down.phase ≡ Down (begun g areas)
    pub comes : ComesUpBy a down result new

  -- it is up, with the content of a store that was read; or the areas are not those of the geometry; or its recovery has stopped
  abbrev pub Opens : Geometry → List D → Result (World D a) StoreOpenFault → Type 0
  Opens g areas (Ok world) = ComesUpOn g areas (Ok tt) world × IsNewborn a world.phase
  Opens g areas (Err (BadGeometry area)) = IsFirstWrong a g areas area
  Opens g areas (Err (NotUp fault)) = (new : World D a) × ComesUpOn g areas (Err fault) new
  Opens g areas (Err (Folder fault)) = ⊥
  Opens g areas (Err (NoStore misfit)) = ⊥
  Opens g areas (Err BadThreads) = ⊥

  -- it is up on some areas
  abbrev pub IsOpenOnSome : Geometry → World D a → Type 0
  IsOpenOnSome g world = (areas : List D) × Opens g areas (Ok world)

  -- why a recovery of these areas has stopped
  abbrev pub RefusesAreas : Geometry → List D → StoreOpenFault → Type 0
  RefusesAreas g areas (BadGeometry area) = IsFirstWrong a g areas area
  RefusesAreas g areas (NotUp fault) = (why : RecoverFault) × (fault ≡ of_recovery why) × Explains a g areas why
  RefusesAreas g areas (Folder fault) = ⊥
  RefusesAreas g areas (NoStore misfit) = ⊥
  RefusesAreas g areas BadThreads = ⊥
