-- What is kept of areas that were read.
use Rattle.std.specs.Prelude.{◌≡◌, ℕ, ◌+◌, ◌≤◌, List, [], ◌∷◌, ◌++◌, length, map, take, drop, Some, true, slice_get}
use Rattle.std.specs.List.Sorted.{IsPermutation}
use Rattle.lc_disk.specs.declared.area.Area.{Ghosts}
use Rattle.lc_record.specs.Words.{words_of}
use Rattle.lc_record.specs.declared.geometry.Geometry.{Geometry}
use Rattle.lc_log.specs.InPlace.{records_in}
use Rattle.lc_model.specs.Merge.{all_records}
use Rattle.lc_recover.specs.Locks.{numbers_in, greatest_kept}
use Rattle.lc_recover.specs.Pages.{AreKept}
use Rattle.lc_recover.specs.Reading.{store_of}
use Rattle.lc_recover.specs.Reads.{area_count, area_len, AreHonest}
use Rattle.lc_recover.specs.declared.store_contents.StoreContents.{StoreContents}
use Rattle.lc_recover.specs.declared.read_areas.ReadAreas.{ReadAreas}
use Rattle.lc_recover.specs.declared.segment_pages.SegmentPages.{SegmentPages}

-- the pages of each of these areas are kept
pub record AreAllKept (pages : ℕ) (areas : List (List ℕ)) (segments : List SegmentPages) : Type 0 where
  pub count : length segments ≡ length areas
  pub each : (s : ℕ) (area : List ℕ) (kept : SegmentPages) → slice_get areas s ≡ Some area → slice_get segments s ≡ Some kept → AreKept area pages kept

-- what is kept of areas that read as these bytes, be they all or the first ones
pub record IsRead (g : Geometry) (areas : List (List ℕ)) (kept : StoreContents) : Type 0 where
  pub logs : kept.logs.items ≡ map words_of (take g.nodes areas)
  pub segments : AreAllKept g.pages (drop g.nodes areas) kept.segments.items

-- the first areas of a store have these bytes
pub record AreFirst (g : Geometry) (areas : List (List ℕ)) : Type 0 where
  pub count : length areas ≤ area_count g
  pub lengths : (k : ℕ) (bytes : List ℕ) → slice_get areas k ≡ Some bytes → Some (length bytes) ≡ area_len g k

-- how many areas are read
abbrev pub read_count : ReadAreas → ℕ
read_count r = length r.kept.logs.items + length r.kept.segments.items

-- beside what is kept stand the numbers of all records, in any order, and the greatest sequence of each segment's pages
pub record IsCounted (r : ReadAreas) : Type 0 where
  pub locks : IsPermutation (numbers_in (all_records (store_of r.kept.logs.items []))) r.locks.items
  pub numbers : r.numbers.items ≡ map greatest_kept r.kept.segments.items

-- all areas of a store were read, as these bytes
pub record IsReadWhole (g : Geometry) (areas : List (List ℕ)) (r : ReadAreas) : Type 0 where
  pub count : length areas ≡ area_count g
  pub first : AreFirst g areas
  pub kept : IsRead g areas r.kept

-- nothing was read between these
pub record IsSameRead (old new : ReadAreas) : Type 0 where
  pub logs : new.kept.logs.items ≡ old.kept.logs.items
  pub segments : new.kept.segments.items ≡ old.kept.segments.items
  pub locks : new.locks.items ≡ old.locks.items
  pub numbers : new.numbers.items ≡ old.numbers.items

module _ {D : Type 0} (a : Ghosts D) where
  -- these bytes were read of the area; while it is honest they are its own
  pub record AreBytesOf (area : D) (bytes : List ℕ) : Type 0 where
    pub long : length bytes ≡ length (a.now area)
    pub same : a.honest area ≡ true → bytes ≡ a.now area

  -- the area was read as one more log
  pub record AddsLog (area : D) (old new : ReadAreas) : Type 0 where
    pub bytes : List ℕ
    pub of_area : AreBytesOf area bytes
    pub logs : new.kept.logs.items ≡ old.kept.logs.items ++ words_of bytes ∷ []
    pub segments : new.kept.segments.items ≡ old.kept.segments.items
    pub locks : new.locks.items ≡ old.locks.items ++ numbers_in (records_in (words_of bytes))
    pub numbers : new.numbers.items ≡ old.numbers.items

  -- the area was read as one more segment, of so many pages
  pub record AddsSegment (count : ℕ) (area : D) (old new : ReadAreas) : Type 0 where
    pub bytes : List ℕ
    pub of_area : AreBytesOf area bytes
    pub pages : SegmentPages
    pub kept : AreKept bytes count pages
    pub logs : new.kept.logs.items ≡ old.kept.logs.items
    pub segments : new.kept.segments.items ≡ old.kept.segments.items ++ pages ∷ []
    pub locks : new.locks.items ≡ old.locks.items
    pub numbers : new.numbers.items ≡ old.numbers.items ++ greatest_kept pages ∷ []

  -- the first areas were read, as these bytes; while all are honest they are their own
  pub record IsReadOf (g : Geometry) (areas : List D) (r : ReadAreas) : Type 0 where
    pub bytes : List (List ℕ)
    pub first : AreFirst g bytes
    pub kept : IsRead g bytes r.kept
    pub counted : IsCounted r
    pub same : AreHonest a areas → bytes ≡ take (read_count r) (map a.now areas)
