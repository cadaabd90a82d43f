-- The store that the bytes of areas read as, and what a merge of all of it gives.
use Rattle.std.specs.Prelude.{◌≡◌, ℕ, ◌+◌, ◌*◌, ◌<◌, nat_lt, true, List, [], map, length, take, drop, replicate, Option, Some, None, if◌then◌else◌, slice_get, slice_index_or}
use Rattle.lc_disk.specs.Area.{IsClean, IsImage}
use Rattle.lc_disk.specs.declared.area.Area.{Ghosts}
use Rattle.lc_record.specs.Content.{Content}
use Rattle.lc_record.specs.Words.{words_of}
use Rattle.lc_record.specs.declared.geometry.Geometry.{Geometry}
use Rattle.lc_log.specs.InPlace.{records_in}
use Rattle.lc_model.specs.Merge.{StoreText, MergesTo, MergeFault, Refuses}
use Rattle.lc_recover.specs.Pages.{pages_read}

-- the areas of a store: the logs of its nodes, then its segments
abbrev pub area_count : Geometry → ℕ
area_count g = g.nodes + g.segments

-- the length of the area at this index, in bytes, where there is one
abbrev pub area_len : Geometry → ℕ → Option ℕ
area_len g area =
    if nat_lt area g.nodes then Some (8 * (g.words + 1))
    else if nat_lt area (area_count g) then Some (2 * 272 * g.pages)
    else None

-- what areas of these bytes read as: the records of each log, and the pages of each segment
abbrev pub store_of : Geometry → List (List ℕ) → StoreText
store_of g areas = record {
  logs = map (λ bytes. records_in (words_of bytes)) (take g.nodes areas);
  pages = map (pages_read g.pages) (drop g.nodes areas);
}

module _ {D : Type 0} (a : Ghosts D) where
  -- there are as many of them as the geometry says, each as long
  abbrev pub HaveLengths : Geometry → List D → Type 0
  HaveLengths g areas = (area : ℕ) → slice_get (map (λ d. length (a.now d)) areas) area ≡ area_len g area

  -- what a stop may leave of these areas
  pub record AreImages (areas : List D) (images : List (List ℕ)) : Type 0 where
    pub count : length images ≡ length areas
    pub each : (area : ℕ) (device : D) → slice_get areas area ≡ Some device →
        IsImage (a.now device) (a.dirty device) (slice_index_or images area [])

  -- each of them keeps to the model of a disk
  abbrev pub AreHonest : List D → Type 0
  AreHonest areas = (area : ℕ) (device : D) → slice_get areas area ≡ Some device → a.honest device ≡ true

  -- the area is as long as before, and while it is honest it reads as before, with the same positions dirty
  pub record IsLeftAs (old new : D) : Type 0 where
    pub honest : a.honest new ≡ a.honest old
    pub len : length (a.now new) ≡ length (a.now old)
    pub same : a.honest old ≡ true → a.now new ≡ a.now old
    pub same_dirty : a.honest old ≡ true → (at : ℕ) → a.dirty new at ≡ a.dirty old at

  -- so is each of them: none was written to, and no sync has made a position stable
  pub record AreLeftAs (olds news : List D) : Type 0 where
    pub count : length news ≡ length olds
    pub each : (k : ℕ) (old new : D) → slice_get olds k ≡ Some old → slice_get news k ≡ Some new → IsLeftAs old new

  -- they read as zeros, and a stop leaves them so
  abbrev pub AreZeros : List D → Type 0
  AreZeros areas = (area : ℕ) (device : D) → slice_get areas area ≡ Some device →
      (a.now device ≡ replicate (length (a.now device)) 0) × IsClean (a.dirty device)

  -- what they hold are bytes, while they are honest
  abbrev pub AreOfBytes : List D → Type 0
  AreOfBytes areas = (k : ℕ) (device : D) → slice_get areas k ≡ Some device → a.honest device ≡ true →
      (at : ℕ) → slice_index_or (a.now device) at 0 < 256

  -- whatever a stop leaves of them merges, without a refusal, to this result
  abbrev pub AllMergeTo : Geometry → List D → Content → (ℕ → ℕ) → Type 0
  AllMergeTo g areas content numbers =
      (images : List (List ℕ)) → AreImages areas images → MergesTo (store_of g images) content numbers

  -- they read as a store of which the merge is refused so
  abbrev pub ReadsRefused : Geometry → List D → MergeFault → Type 0
  ReadsRefused g areas fault = Refuses (store_of g (map a.now areas)) fault
