-- What is told of files that are looked at.
use Rattle.std.proofs.Common.{◌≡◌, ℕ, List, [], ◌++◌, append-nil, refl, sym, inl, inr}
use Rattle.std.specs.Prelude.{Result, Ok, Err}
use Rattle.lc_record.specs.declared.geometry.Geometry.{Geometry}
use Rattle.lc_recover.specs.declared.fault.RecoverFault.{RecoverFault}
use Rattle.lc_recover.specs.declared.fault.RecoverFault.TheVariants.{BadGeometry, DeviceFault, NoMemory}
use Rattle.lc_look.specs.Printed.{Stops}
use Rattle.lc_look.specs.Recovers.{stop_status, stop_text}
use Rattle.lc_folder.specs.Found.{misfit_text}
use Rattle.lc_tool.specs.Files.{NotOpened}
use Rattle.lc_tool.specs.Found.{size_text}
use Rattle.lc_tool.specs.StoreReport.{HasNoSize, ShowsView, TakesSize, TellsView, front_text}
use Rattle.lc_folder.specs.declared.misfit.Misfit.{Misfit}
use Rattle.lc_tool.specs.declared.store_report.StoreReport.{StoreReport}
use Rattle.lc_tool.specs.declared.store_report.StoreReport.TheVariants.{Check, Dump, Draw}

its_fault : (text : List ℕ) (status : ℕ) → NotOpened text status → (fault : RecoverFault) × (text ≡ stop_text fault) × (status ≡ stop_status fault)
its_fault text status (inl (inl failed)) = (DeviceFault, failed.0, failed.1)
its_fault text status (inl (inr none)) = (NoMemory, none.0, none.1)
its_fault text status (inr other) = (BadGeometry other.0, other.1, other.2)

-- the areas could not be had
pub shows_stop : (view : StoreReport) (g : Geometry) (text : List ℕ) (status : ℕ) → NotOpened text status → ShowsView view g text status
shows_stop (Check size) g text status stops = ([], text, refl, inr (its_fault text status stops))
shows_stop (Dump segment page) g text status stops = inr (inr (its_fault text status stops))
shows_stop Draw g text status stops = inr (its_fault text status stops)

-- the folder could not be looked at
pub tells_stop : (view : StoreReport) (text : List ℕ) (status : ℕ) → Stops text status → TellsView view text status
tells_stop (Check size) text status stops = inl stops
tells_stop (Dump segment page) text status stops = inl (inr stops)
tells_stop Draw text status stops = inl (inr stops)

pub tells_shown : (view : StoreReport) (found : Result Geometry Misfit) (g : Geometry) (rest : List ℕ) (status : ℕ) → TakesSize view found g → ShowsView view g rest status
    → TellsView view (front_text found view ++ rest) status
tells_shown (Check size) (Ok h) g rest status taken shown = inr (Ok h, rest, refl, inl (g, taken, shown))
tells_shown (Check size) (Err misfit) g rest status taken shown = inr (Err misfit, rest, refl, inl (g, taken, shown))
tells_shown (Dump segment page) (Ok h) g rest status taken shown = inr shown
tells_shown (Dump segment page) (Err misfit) g rest status taken shown = absurd cc
tells_shown Draw (Ok h) g rest status taken shown = inr (g, shown)
tells_shown Draw (Err misfit) g rest status taken shown = absurd cc

pub tells_none : (view : StoreReport) (found : Result Geometry Misfit) (status : ℕ) → HasNoSize view found status → TellsView view (front_text found view) status
tells_none (Check size) (Ok h) status none = inr (Ok h, [], sym (append-nil (size_text h)), inr (none.0, refl, none.1))
tells_none (Check size) (Err misfit) status none = inr (Err misfit, [], sym (append-nil (misfit_text misfit)), inr (none.0, refl, none.1))
tells_none (Dump segment page) (Ok h) status none = absurd (let no = none.1 in cc)
tells_none (Dump segment page) (Err misfit) status none = inl (inl (misfit, refl, none.2))
tells_none Draw (Ok h) status none = absurd (let no = none.1 in cc)
tells_none Draw (Err misfit) status none = inl (inl (misfit, refl, none.2))
