-- What is printed of a store whose size its folder tells.
use Rattle.std.specs.Prelude.{◌≡◌, ◌⊎◌, ℕ, List, [], ◌++◌, codes, decimal, Option, Result, Ok, Err}
use Rattle.std.specs.Io.KnownBytes.{Keeps}
use Rattle.std.specs.Option.{unwrap_or}
use Rattle.lc_record.specs.Geometry.{HasNumbers}
use Rattle.lc_record.specs.declared.geometry.Geometry.{Geometry}
use Rattle.lc_look.specs.Checks.{EndsWithRecovery}
use Rattle.lc_look.specs.Draws.{TellsDraw}
use Rattle.lc_look.specs.Dumps.{TellsDump}
use Rattle.lc_folder.specs.Found.{misfit_text}
use Rattle.lc_folder.specs.declared.misfit.Misfit.{Misfit}
use Rattle.lc_look.specs.Printed.{Stops, Adds}
use Rattle.lc_words.specs.declared.size.Size.{Size}
use Rattle.lc_words.specs.declared.size.Size.TheVariants.{Given, AsFound}

-- the size is the one that is given, or the numbers that are given over those of a size that was found
abbrev pub IsTaken : Size → Geometry → Type 0
IsTaken (Given g) h = h ≡ g
IsTaken (AsFound w) h = (found : Geometry) × HasNumbers h (unwrap_or w.nodes found.nodes) w.threads (unwrap_or w.segments found.segments)
    (unwrap_or w.pages found.pages) (unwrap_or w.words found.words)

abbrev pub IsAsFound : Size → Type 0
IsAsFound (Given g) = ⊥
IsAsFound (AsFound w) = Unit {0}

-- the status where a store is of no size: 1 where its files do not fit, 2 where a number that was asked for is that of no store
abbrev pub unsized_status : Result Geometry Misfit → ℕ
unsized_status (Ok g) = 2
unsized_status (Err misfit) = 1

-- why no size was found
abbrev pub TellsMisfit : List ℕ → ℕ → Type 0
TellsMisfit text status = ((misfit : Misfit) × (text ≡ misfit_text misfit) × (status ≡ 1)) ⊎ Stops text status

-- that, or nothing where a number that is given is that of no store
abbrev pub TellsUnsized : Option (List ℕ) → Option (List ℕ) → ℕ → Type 0
TellsUnsized held holds status = Adds TellsMisfit held holds status ⊎ ((status ≡ 2) × Keeps held holds)

-- what is printed of a store of the size that is taken
abbrev pub AnswersSized : Size → (Geometry → Type 0) → Option (List ℕ) → Option (List ℕ) → ℕ → Type 0
AnswersSized size Such held holds status = ((g : Geometry) × IsTaken size g × Such g) ⊎ (IsAsFound size × TellsUnsized held holds status)

-- how many there are of each thing that files tell
abbrev pub size_text : Geometry → List ℕ
size_text g = codes "nodes " ++ decimal g.nodes ++ codes " segments " ++ decimal g.segments ++ codes " pages " ++ decimal g.pages ++ codes " words " ++ decimal g.words ++ codes "\n"

-- the size that files tell, or what does not fit
abbrev pub found_text : Result Geometry Misfit → List ℕ
found_text (Ok g) = size_text g
found_text (Err misfit) = misfit_text misfit

-- what a check of files prints: their size, or what does not fit, and then the lines of a check of a store of the size
-- that is taken, if one is; or that they could not be looked at
abbrev pub TellsChecked : Size → List ℕ → ℕ → Type 0
TellsChecked size text status =
    Stops text status
    ⊎ ((found : Result Geometry Misfit) × (rest : List ℕ) × (text ≡ found_text found ++ rest)
    × (((g : Geometry) × IsTaken size g × EndsWithRecovery g rest status)
    ⊎ (IsAsFound size × (rest ≡ []) × (status ≡ unsized_status found))))

-- what a dump of files prints
abbrev pub TellsDumped : ℕ → ℕ → List ℕ → ℕ → Type 0
TellsDumped segment page text status = TellsMisfit text status ⊎ TellsDump segment page text status

-- what a draw of files prints
abbrev pub TellsDrawn : List ℕ → ℕ → Type 0
TellsDrawn text status = TellsMisfit text status ⊎ ((g : Geometry) × TellsDraw g text status)
