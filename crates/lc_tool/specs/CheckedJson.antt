-- What a check prints as one JSON object: the size that files tell, what does not fit, and then what a recovery would
-- say.
use Rattle.std.specs.Prelude.{◌≡◌, ◌⊎◌, ℕ, Bool, true, false, List, [], ◌∷◌, ◌++◌, codes, decimal, Result, Ok, Err}
use Rattle.lc_record.specs.declared.geometry.Geometry.{Geometry}
use Rattle.lc_recover.specs.declared.fault.RecoverFault.{RecoverFault}
use Rattle.lc_recover.specs.declared.fault.RecoverFault.TheVariants.{BadGeometry, DeviceFault, NoMemory}
use Rattle.lc_folder.specs.Files.{name_text}
use Rattle.lc_folder.specs.declared.folder.FolderFault.{FolderFault}
use Rattle.lc_folder.specs.declared.folder.FolderFault.TheVariants.{Failed, NoMemory as WantsMemory}
use Rattle.lc_folder.specs.declared.misfit.Misfit.{Misfit}
use Rattle.lc_folder.specs.declared.misfit.Misfit.TheVariants.{Missing, NoLen, OtherLen}
use Rattle.lc_folder.specs.declared.sizing.Unopened.{Unopened}
use Rattle.lc_folder.specs.declared.sizing.Unopened.TheVariants.{Folder, OtherSize}
use Rattle.lc_look.specs.Json.{EndsJson, TellsUnread}
use Rattle.lc_tool.specs.Found.{IsAsFound, IsTaken, TellsChecked, unsized_status}
use Rattle.lc_words.specs.declared.size.Size.{Size}

-- some texts, one after another
abbrev pieces : List (List ℕ) → List ℕ
pieces [] = []
pieces (p ∷ []) = p
pieces (p ∷ q ∷ ps) = p ++ pieces (q ∷ ps)

-- how many there are of each thing
abbrev pub size_json : Geometry → List ℕ
size_json g =
    pieces (codes "{\"size\":{\"nodes\":" ∷ decimal g.nodes ∷ codes ",\"segments\":" ∷ decimal g.segments ∷ codes ",\"pages\":"
    ∷ decimal g.pages ∷ codes ",\"words\":" ∷ decimal g.words ∷ codes "},\"misfit\":null," ∷ [])

-- which file does not fit, and why
abbrev pub misfit_json : Misfit → List ℕ
misfit_json (Missing name) = codes "{\"size\":null,\"misfit\":{\"file\":\"" ++ name_text name ++ codes "\",\"why\":\"is missing\"},"
misfit_json (NoLen name) = codes "{\"size\":null,\"misfit\":{\"file\":\"" ++ name_text name ++ codes "\",\"why\":\"has a length of no store\"},"
misfit_json (OtherLen name) = codes "{\"size\":null,\"misfit\":{\"file\":\"" ++ name_text name ++ codes "\",\"why\":\"has another length than the first\"},"

-- the front of the object: the size that files tell, or what does not fit
abbrev pub found_json : Result Geometry Misfit → List ℕ
found_json (Ok g) = size_json g
found_json (Err misfit) = misfit_json misfit

-- the front where the folder could not be looked at
abbrev pub unlooked_json : List ℕ
unlooked_json = codes "{\"size\":null,\"misfit\":null,"

-- the rest of the object where a store is of no size
abbrev pub unsized_json : List ℕ
unsized_json = codes "\"logs\":[],\"segments\":[],\"refused\":null,\"ok\":false}\n"

-- what is said of a fault of the folder
abbrev pub folder_fault : FolderFault → RecoverFault
folder_fault Failed = DeviceFault
folder_fault WantsMemory = NoMemory

-- and why a store is not opened
abbrev pub opening_fault : Unopened → RecoverFault
opening_fault (Folder fault) = folder_fault fault
opening_fault (OtherSize area) = BadGeometry area

-- the whole object where the folder could not be looked at
abbrev pub TellsUnlooked : List ℕ → ℕ → Type 0
TellsUnlooked text status = (fault : FolderFault) × (rest : List ℕ) × (text ≡ unlooked_json ++ rest) × TellsUnread (folder_fault fault) rest status

-- that, or the front, and then what is found of a store of the size that is taken, if one is
abbrev pub TellsJson : Size → List ℕ → ℕ → Type 0
TellsJson size text status =
    TellsUnlooked text status
    ⊎ ((found : Result Geometry Misfit) × (rest : List ℕ) × (text ≡ found_json found ++ rest)
    × (((g : Geometry) × IsTaken size g × EndsJson g rest status)
    ⊎ (IsAsFound size × (rest ≡ unsized_json) × (status ≡ unsized_status found))))

-- what a check prints, in lines or as JSON
abbrev pub TellsCheck : Bool → Size → List ℕ → ℕ → Type 0
TellsCheck true size = TellsJson size
TellsCheck false size = TellsChecked size
