-- The files of a store in a folder, and the names that it gives there.
use Rattle.std.specs.Prelude.{◌≡◌, ℕ, ◌+◌, ◌-◌, ◌*◌, ◌≤◌, ◌==◌, nat_lt, if◌then◌else◌, List, ◌++◌, codes, decimal, Option}
use Rattle.lc_record.specs.declared.geometry.Geometry.{Geometry}
use Rattle.lc_folder.specs.declared.file_name.FileName.{FileName}
use Rattle.lc_folder.specs.declared.file_name.FileName.TheVariants.{Log, Segment}
use Rattle.lc_folder.specs.declared.store_file.StoreFile.{StoreFile}
use Rattle.lc_folder.specs.declared.store_name.StoreName.{StoreName}
use Rattle.lc_folder.specs.declared.store_name.StoreName.TheVariants.{Size, Mark, File, Copy}

abbrev pub name_text : FileName → List ℕ
name_text (Log node) = codes "log" ++ decimal node
name_text (Segment segment) = codes "seg" ++ decimal segment

-- the logs by node, from 0, and then the segments, from 1
abbrev pub name_at : Geometry → ℕ → FileName
name_at g area = if nat_lt area g.nodes then Log area else Segment (area - g.nodes + 1)

-- the file of an area, as long as the area
abbrev pub file_at : Geometry → ℕ → StoreFile
file_at g area = record {
  name = name_at g area;
  len = if nat_lt area g.nodes then 8 * (g.words + 1) else 2 * 272 * g.pages;
}

-- of the store's size, of the mark of a fault, of a file, and of the copy that takes its place
abbrev pub store_name_text : StoreName → List ℕ
store_name_text Size = codes "lcrvm.store"
store_name_text Mark = codes "fault"
store_name_text (File name) = name_text name
store_name_text (Copy name) = name_text name ++ codes ".new"

-- the files that some store has: eight logs, and then 16 segments
abbrev pub some_file_at : ℕ → FileName
some_file_at place = if nat_lt place 8 then Log place else Segment (place - 7)

-- all names that some store gives in its folder: 50
abbrev pub store_name_at : ℕ → StoreName
store_name_at place =
    if place == 0 then Size
    else if place == 1 then Mark
    else if nat_lt place 26 then File (some_file_at (place - 2))
    else Copy (some_file_at (place - 26))

-- what stands under each name, with its bytes
abbrev pub Files : Type 0
Files = StoreName → Option (List ℕ)

-- so many bytes are those of a log
abbrev pub IsLogLen : ℕ → Type 0
IsLogLen len = (words : ℕ) × (64 ≤ words) × (words ≤ 4096) × (len ≡ 8 * (words + 1))
