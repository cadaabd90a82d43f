-- What is shown of a store in a folder that is looked at.
use Rattle.std.specs.Prelude.{◌≡◌, ℕ, List, [], Result, Ok, Err}
use Rattle.lc_record.specs.declared.geometry.Geometry.{Geometry}
use Rattle.lc_look.specs.Checks.{EndsWithRecovery}
use Rattle.lc_look.specs.Draws.{TellsDraw}
use Rattle.lc_look.specs.Dumps.{TellsDump}
use Rattle.lc_folder.specs.Found.{misfit_text}
use Rattle.lc_tool.specs.Found.{IsAsFound, IsTaken, TellsChecked, TellsDrawn, TellsDumped, size_text, unsized_status}
use Rattle.lc_folder.specs.declared.misfit.Misfit.{Misfit}
use Rattle.lc_tool.specs.declared.store_report.StoreReport.{StoreReport}
use Rattle.lc_tool.specs.declared.store_report.StoreReport.TheVariants.{Check, Dump, Draw}

-- what does not fit, or, in front of a check, the size that files tell
abbrev pub front_text : Result Geometry Misfit → StoreReport → List ℕ
front_text (Ok g) (Check size) = size_text g
front_text (Ok g) view = []
front_text (Err misfit) view = misfit_text misfit

-- the store is taken to have this size
abbrev pub TakesSize : StoreReport → Result Geometry Misfit → Geometry → Type 0
TakesSize (Check size) found g = IsTaken size g
TakesSize view found g = found ≡ Ok g

-- it is of no size, and that gives this status
abbrev pub HasNoSize : StoreReport → Result Geometry Misfit → ℕ → Type 0
HasNoSize (Check size) found status = IsAsFound size × (status ≡ unsized_status found)
HasNoSize view found status = (misfit : Misfit) × (found ≡ Err misfit) × (status ≡ 1)

-- what is printed of a store of this size
abbrev pub ShowsView : StoreReport → Geometry → List ℕ → ℕ → Type 0
ShowsView (Check size) g = EndsWithRecovery g
ShowsView (Dump segment page) g = TellsDump segment page
ShowsView Draw g = TellsDraw g

-- what is printed of files
abbrev pub TellsView : StoreReport → List ℕ → ℕ → Type 0
TellsView (Check size) = TellsChecked size
TellsView (Dump segment page) = TellsDumped segment page
TellsView Draw = TellsDrawn
