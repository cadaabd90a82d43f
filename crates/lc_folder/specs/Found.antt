-- The size that the lengths of files tell.
use Rattle.std.specs.Prelude.{◌≡◌, ◌≢◌, ◌⊎◌, ℕ, ◌+◌, ◌*◌, ◌<◌, ◌≤◌, List, ◌++◌, length, codes, Option, Some, None, slice_get}
use Rattle.lc_record.specs.declared.geometry.Geometry.{Geometry}
use Rattle.lc_folder.specs.Files.{IsLogLen, name_text}
use Rattle.lc_folder.specs.declared.file_name.FileName.TheVariants.{Log, Segment}
use Rattle.lc_folder.specs.declared.file_row.FileRow.{FileRow}
use Rattle.lc_folder.specs.declared.file_row.RowFault.{RowFault}
use Rattle.lc_folder.specs.declared.file_row.RowFault.TheVariants.{Missing as RowMissing, OtherLen as RowOther}
use Rattle.lc_folder.specs.declared.misfit.Misfit.{Misfit}
use Rattle.lc_folder.specs.declared.misfit.Misfit.TheVariants.{Missing, NoLen, OtherLen}

-- so many bytes are those of a segment
abbrev pub IsSegmentLen : ℕ → Type 0
IsSegmentLen len = (pages : ℕ) × (1 ≤ pages) × (pages ≤ 1024) × (len ≡ 2 * 272 * pages)

-- the first files of a kind are as long as the first, and no other is there
pub record IsRow (lens : List (Option ℕ)) (row : FileRow) : Type 0 where
  pub some : 1 ≤ row.count
  pub few : row.count ≤ length lens
  pub there : (place : ℕ) → place < row.count → slice_get lens place ≡ Some (Some row.len)
  pub no_more : (place : ℕ) → row.count ≤ place → place < length lens → slice_get lens place ≡ Some None

-- there is no file at the place, and it is the first, or a later one is there
abbrev pub IsMissing : List (Option ℕ) → ℕ → Type 0
IsMissing lens place = ((len : ℕ) → slice_get lens place ≡ Some (Some len) → ⊥)
    × ((place ≡ 0) ⊎ ((later : ℕ) × (len : ℕ) × (place < later) × (slice_get lens later ≡ Some (Some len))))

-- the file at the place is there, and not as long as the first
abbrev pub IsOther : List (Option ℕ) → ℕ → Type 0
IsOther lens place = (first : ℕ) × (len : ℕ) × (slice_get lens 0 ≡ Some (Some first)) × (slice_get lens place ≡ Some (Some len)) × (len ≢ first)

abbrev pub IsRowFault : List (Option ℕ) → RowFault → Type 0
IsRowFault lens (RowMissing place) = IsMissing lens place
IsRowFault lens (RowOther place) = IsOther lens place

-- which place a fault names
abbrev pub place_of : RowFault → ℕ
place_of (RowMissing place) = place
place_of (RowOther place) = place

-- the files of this size, with one thread a node
pub record AreLensOf (logs segments : List (Option ℕ)) (g : Geometry) : Type 0 where
  pub threads : g.threads ≡ 1
  pub each_log : (node : ℕ) → node < g.nodes → slice_get logs node ≡ Some (Some (8 * (g.words + 1)))
  pub no_more_logs : (node : ℕ) → g.nodes ≤ node → node < length logs → slice_get logs node ≡ Some None
  pub each_segment : (place : ℕ) → place < g.segments → slice_get segments place ≡ Some (Some (2 * 272 * g.pages))
  pub no_more_segments : (place : ℕ) → g.segments ≤ place → place < length segments → slice_get segments place ≡ Some None

-- what is said of a log, and of a segment
abbrev pub log_misfit : RowFault → Misfit
log_misfit (RowMissing place) = Missing (Log place)
log_misfit (RowOther place) = OtherLen (Log place)

abbrev pub segment_misfit : RowFault → Misfit
segment_misfit (RowMissing place) = Missing (Segment (place + 1))
segment_misfit (RowOther place) = OtherLen (Segment (place + 1))

-- what does not fit is said of the first kind that it is true of
pub data IsMisfit (logs segments : List (Option ℕ)) (misfit : Misfit) : Type 0 where
  of_logs : (fault : RowFault) → IsRowFault logs fault → misfit ≡ log_misfit fault → IsMisfit logs segments misfit
  of_segments : (fault : RowFault) → IsRowFault segments fault → misfit ≡ segment_misfit fault → IsMisfit logs segments misfit
  of_first_log : (len : ℕ) → slice_get logs 0 ≡ Some (Some len) → (IsLogLen len → ⊥) → misfit ≡ NoLen (Log 0) → IsMisfit logs segments misfit
  of_first_segment : (len : ℕ) → slice_get segments 0 ≡ Some (Some len) → (IsSegmentLen len → ⊥) → misfit ≡ NoLen (Segment 1) → IsMisfit logs segments misfit

-- its line
abbrev pub misfit_text : Misfit → List ℕ
misfit_text (Missing name) = name_text name ++ codes " is missing\n"
misfit_text (NoLen name) = name_text name ++ codes " has a length of no store\n"
misfit_text (OtherLen name) = name_text name ++ codes " has another length than the first\n"
