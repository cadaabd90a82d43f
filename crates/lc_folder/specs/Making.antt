-- What the making of a store leaves in a folder.
use Rattle.std.specs.Prelude.{◌≡◌, ℕ, ◌+◌, ◌-◌, ◌<◌, ◌==◌, if◌then◌else◌, Bool, false, List, replicate, Some, None, is_some, Result, Ok, Err}
use Rattle.lc_record.specs.declared.geometry.Geometry.{Geometry}
use Rattle.lc_recover.specs.Reads.{area_count}
use Rattle.lc_folder.specs.Files.{Files, file_at, store_name_at}
use Rattle.lc_folder.specs.SizeText.{size_file_text}
use Rattle.lc_folder.specs.declared.new_file.NewFile.{NewFile}
use Rattle.lc_folder.specs.declared.new_file.NewFile.TheVariants.{Size as OfSize, Area}
use Rattle.lc_folder.specs.declared.store_name.StoreName.{StoreName}
use Rattle.lc_folder.specs.declared.store_name.StoreName.TheVariants.{Size, File}
use Rattle.lc_folder.specs.declared.making.Unmade.{Unmade}
use Rattle.lc_folder.specs.declared.making.Cause.{Cause}
use Rattle.lc_folder.specs.declared.making.Cause.TheVariants.{Exists, Folder}

abbrev pub new_name : NewFile → StoreName
new_name (OfSize g) = Size
new_name (Area file) = File file.name

-- the lines of the size, or zeros
abbrev pub new_bytes : NewFile → List ℕ
new_bytes (OfSize g) = size_file_text g
new_bytes (Area file) = replicate file.len 0

-- the files of a new store: that of its size, and then that of each area
abbrev pub new_at : Geometry → ℕ → NewFile
new_at g place = if place == 0 then OfSize g else Area (file_at g (place - 1))

abbrev pub new_name_at : Geometry → ℕ → StoreName
new_name_at g place = new_name (new_at g place)

abbrev pub new_count : Geometry → ℕ
new_count g = area_count g + 1

-- something was made under a name that was free, and nothing else has changed
pub record Puts (name : StoreName) (bytes : List ℕ) (old new : Files) : Type 0 where
  pub free : old name ≡ None
  pub there : new name ≡ Some bytes
  pub others : (other : StoreName) → (other ≡ name → ⊥) → new other ≡ old other

-- nothing but what stands under this name has changed
abbrev pub ChangesAt : StoreName → Files → Files → Type 0
ChangesAt name old new = (other : StoreName) → (other ≡ name → ⊥) → new other ≡ old other

-- nothing stands under a name that some store gives
abbrev pub NoneTaken : Files → Type 0
NoneTaken files = (place : ℕ) → place < 50 → files (store_name_at place) ≡ None

-- something stands under one of them
abbrev pub IsTaken : StoreName → Files → Type 0
IsTaken name files = (files name ≡ None → ⊥) × ((place : ℕ) × (place < 50) × (name ≡ store_name_at place))

-- the name is that of none of the first so many files of a new store
abbrev pub IsOther : Geometry → ℕ → StoreName → Type 0
IsOther g count other = (place : ℕ) → place < count → other ≡ new_name_at g place → ⊥

-- the first so many files of a new store were made, and nothing else has changed
pub record MadeFirst (g : Geometry) (count : ℕ) (old new : Files) : Type 0 where
  pub made : (place : ℕ) → place < count → new (new_name_at g place) ≡ Some (new_bytes (new_at g place))
  pub others : (other : StoreName) → IsOther g count other → new other ≡ old other

-- A new store, whose names are stable, where none of the names that some store gives is taken; else nothing has changed. What was
-- made before a fault is taken away again, unless it is said that something is left; nothing else has changed.
abbrev pub Inits : Geometry → Files → Files → (StoreName → Bool) → Result (Unit {0}) Unmade → Type 0
Inits g old new stable (Ok _) = NoneTaken old × MadeFirst g (new_count g) old new × ((name : StoreName) → stable name ≡ is_some (new name))
Inits g old new stable (Err unmade) = ByCause unmade.cause where
  ByCause : Cause → Type 0
  ByCause (Exists name) = IsTaken name old × (new ≡ old) × (unmade.is_left ≡ false)
  ByCause (Folder fault) =
      ((other : StoreName) → IsOther g (new_count g) other → new other ≡ old other)
      × (unmade.is_left ≡ false → (place : ℕ) → place < new_count g → new (new_name_at g place) ≡ old (new_name_at g place))
