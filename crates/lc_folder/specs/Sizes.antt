-- The size of the store that is in a folder.
use Rattle.std.specs.Prelude.{◌≡◌, ℕ, ◌<◌, List, Option, Some, None}
use Rattle.lc_record.specs.declared.geometry.Geometry.{Geometry}
use Rattle.lc_recover.specs.Reads.{area_count}
use Rattle.lc_folder.specs.Files.{file_at}
use Rattle.lc_folder.specs.Found.{AreLensOf}
use Rattle.lc_folder.specs.SizeText.{IsSameSize, size_file_text}

-- with one thread a node: what the store's own file says, or, where there is none, what the lengths of its files tell
abbrev pub IsSizeOf : Option (List ℕ) → List (Option ℕ) → List (Option ℕ) → Geometry → Type 0
IsSizeOf (Some text) logs segments g = (text ≡ size_file_text g) × (g.threads ≡ 1)
IsSizeOf None logs segments g = AreLensOf logs segments g

-- the store's own file, where there is one, says this size
abbrev pub Agrees : Option (List ℕ) → Geometry → Type 0
Agrees stated g = (text : List ℕ) → stated ≡ Some text → text ≡ size_file_text g

-- the two stores have the same files up to this area, where they differ, or one of them has no more
pub record IsFirstDifference (g h : Geometry) (area : ℕ) : Type 0 where
  pub same : (before : ℕ) → before < area → (before < area_count g) × (before < area_count h) × (file_at g before ≡ file_at h before)
  pub differ : area < area_count g → area < area_count h → file_at g area ≡ file_at h area → ⊥

-- it says another size, whose files differ from those of this one first at this area
abbrev pub SaysOther : Option (List ℕ) → Geometry → ℕ → Type 0
SaysOther stated g area = (h : Geometry) × (stated ≡ Some (size_file_text h)) × (IsSameSize h g → ⊥) × IsFirstDifference g h area
