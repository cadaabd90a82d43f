-- What is told of the files of a store, and why it is not opened.
use Rattle.std.specs.Prelude.{◌≡◌, ◌⊎◌, ℕ, Bool, List, [], Option, Result, Ok, Err}
use Rattle.lc_model.specs.declared.refusal.Refusal.TheVariants.{BadGeometry, DeviceFault}
use Rattle.lc_folder.specs.declared.folder.FolderFault.{FolderFault}
use Rattle.lc_folder.specs.declared.folder.FolderFault.TheVariants.{Failed, NoMemory}
use Rattle.lc_folder.specs.declared.making.Cause.{Cause}
use Rattle.lc_folder.specs.declared.making.Cause.TheVariants.{Exists, Folder}
use Rattle.lc_folder.specs.declared.making.Unmade.{Unmade}
use Rattle.lc_folder.specs.declared.sizing.Unopened.{Unopened}
use Rattle.lc_folder.specs.declared.sizing.Unopened.TheVariants.{Folder as NoFolder, OtherSize}
use Rattle.lc_look.specs.Printed.{Adds, NoMemory as WantsMemory, Stops}
use Rattle.lc_text.specs.Inspector.{Inspects}
use Rattle.lc_text.specs.Text.{exists_text, refusal_text}

-- why there is no store: the line of a device that failed, or of want of memory
abbrev pub TellsStopped : FolderFault → List ℕ → ℕ → Type 0
TellsStopped Failed text status = (text ≡ refusal_text DeviceFault) × (status ≡ 3)
TellsStopped NoMemory text status = WantsMemory text status

-- that, or the line of a store of another size
abbrev pub TellsUnopened : Unopened → List ℕ → ℕ → Type 0
TellsUnopened (NoFolder fault) text status = TellsStopped fault text status
TellsUnopened (OtherSize area) text status = (text ≡ refusal_text (BadGeometry area)) × (status ≡ 1)

-- the same whatever the fault
abbrev pub NotOpened : List ℕ → ℕ → Type 0
NotOpened text status = Stops text status ⊎ ((area : ℕ) × (text ≡ refusal_text (BadGeometry area)) × (status ≡ 1))

-- why a store was not made: the line of a name that is taken, or why there is no store
abbrev pub TellsCause : Cause → List ℕ → ℕ → Type 0
TellsCause (Exists name) text status = (text ≡ exists_text) × (status ≡ 1)
TellsCause (Folder fault) text status = TellsStopped fault text status

-- what is told of the making of a store: nothing where it is made
abbrev pub TellsMaking : Result (Unit {0}) Unmade → List ℕ → ℕ → Type 0
TellsMaking (Ok _) text status = (text ≡ []) × (status ≡ 0)
TellsMaking (Err unmade) text status = TellsCause unmade.cause text status

-- whatever became of it
abbrev pub TellsInit : List ℕ → ℕ → Type 0
TellsInit text status = (made : Result (Unit {0}) Unmade) × TellsMaking made text status

-- the line of a file that has not the length of a log, or that could not be read
abbrev pub TellsFile : List ℕ → ℕ → Type 0
TellsFile text status = ((text ≡ refusal_text (BadGeometry 0)) × (status ≡ 1)) ⊎ Stops text status

-- the records of some words, in this order, or why there are none, with what a writer held and holds
abbrev pub TellsInspection : Bool → Option (List ℕ) → Option (List ℕ) → ℕ → Type 0
TellsInspection reverse held holds status =
    ((status ≡ 0) × ((words : List ℕ) × Inspects reverse words held holds)) ⊎ Adds TellsFile held holds status
