-- What a draw prints: the picture of a store.
use Rattle.std.specs.Prelude.{◌≡◌, ◌≢◌, ◌⊎◌, ◌↔◌, ℕ, ◌+◌, ◌≤◌, List, [], length, map, drop, Option, Some, IsTrue, slice_get, slice_index_or}
use Rattle.lc_disk.specs.declared.area.Area.{Ghosts}
use Rattle.lc_record.specs.Content.{Content}
use Rattle.lc_record.specs.Words.{words_of}
use Rattle.lc_record.specs.declared.geometry.Geometry.{Geometry}
use Rattle.lc_log.specs.LogText.{IsWalk}
use Rattle.lc_page.specs.Page.{text_in}
use Rattle.lc_model.specs.Merge.{MergesTo, StoreText}
use Rattle.lc_recover.specs.Forecast.{IsPageBehind}
use Rattle.lc_recover.specs.Reads.{AreHonest, HaveLengths, area_len, store_of}
use Rattle.lc_recover.specs.declared.fault.RecoverFault.{RecoverFault}
use Rattle.lc_look.specs.Picture.{picture_text}
use Rattle.lc_look.specs.declared.log_bar.LogBar.{LogBar}
use Rattle.lc_look.specs.declared.page_cell.PageCell.{PageCell}
use Rattle.lc_look.specs.declared.segment_field.SegmentField.{SegmentField}
use Rattle.lc_look.specs.declared.store_picture.StorePicture.{StorePicture}
use Rattle.lc_look.specs.Dumps.{StopsDump}
use Rattle.lc_look.specs.Printed.{Stops, Adds}
use Rattle.lc_look.specs.Recovers.{stop_status, stop_text}

module _ {A : Type 0} (Such : ℕ → A → Type 0) where
  -- there are so many, each such at its place
  pub record AreEach (count : ℕ) (items : List A) : Type 0 where
    pub all : length items ≡ count
    pub each : (place : ℕ) (item : A) → slice_get items place ≡ Some item → Such place item

-- after so many of these words, the last of which is not zero, all are zero
pub record AreTrailing (words : List ℕ) (trailing : ℕ) : Type 0 where
  pub zeros : (place : ℕ) → trailing ≤ place → slice_index_or words place 0 ≡ 0
  pub last : (place : ℕ) → trailing ≡ place + 1 → slice_index_or words place 0 ≢ 0

-- the bar is that of the log of this node, whose area has these bytes
pub record IsBarOf (node : ℕ) (area : List ℕ) (bar : LogBar) : Type 0 where
  pub of : bar.node ≡ node
  pub records : IsWalk (words_of area) bar.records.items bar.end
  pub trailing : AreTrailing (drop bar.end (words_of area)) bar.trailing

-- the cell is that of this page of a segment of the store, whose area has these bytes
pub record IsCellOf (store : StoreText) (segment : ℕ) (area : List ℕ) (page : ℕ) (cell : PageCell) : Type 0 where
  pub of : cell.page ≡ page
  pub slot : cell.slot ≡ (text_in area page).slot
  pub sequence : cell.sequence ≡ (text_in area page).seq
  pub behind : IsTrue cell.is_behind ↔ IsPageBehind store segment page

-- the field is that of this segment of the store, of so many pages, whose area has these bytes, with this number
pub record IsFieldOf (store : StoreText) (pages segment : ℕ) (area : List ℕ) (number : ℕ) (field : SegmentField) : Type 0 where
  pub of : field.segment ≡ segment
  pub sequence : field.sequence ≡ number
  pub cells : AreEach (IsCellOf store segment area) pages field.cells.items

-- the bars of so many logs, which stand first among areas of these bytes
abbrev pub AreBarsOf : ℕ → List (List ℕ) → List LogBar → Type 0
AreBarsOf nodes areas = AreEach (λ node. IsBarOf node (slice_index_or areas node [])) nodes

-- the fields of the segments of the store, whose areas stand after those of the logs, with these numbers
abbrev pub AreFieldsOf : Geometry → StoreText → List (List ℕ) → (ℕ → ℕ) → List SegmentField → Type 0
AreFieldsOf g store areas numbers =
    AreEach (λ place. IsFieldOf store g.pages (place + 1) (slice_index_or areas (g.nodes + place) []) (numbers (place + 1))) g.segments

-- so many bytes has each area
abbrev pub HaveBytes : Geometry → List (List ℕ) → Type 0
HaveBytes g areas = (area : ℕ) → slice_get (map (λ (bytes : List ℕ). length bytes) areas) area ≡ area_len g area

-- the picture is that of a store whose areas have these bytes, and that merges: with the numbers that its segments have then
pub record IsPictureOf (g : Geometry) (store : StoreText) (areas : List (List ℕ)) (picture : StorePicture) : Type 0 where
  pub geometry : picture.geometry ≡ g
  pub content : Content
  pub numbers : ℕ → ℕ
  pub merges : MergesTo store content numbers
  pub bars : AreBarsOf g.nodes areas picture.bars.items
  pub fields : AreFieldsOf g store areas numbers picture.fields.items

-- it is printed
abbrev pub ShowsPicture : Geometry → StoreText → List (List ℕ) → List ℕ → ℕ → Type 0
ShowsPicture g store areas text status = (picture : StorePicture) × IsPictureOf g store areas picture × (text ≡ picture_text picture) × (status ≡ 0)

-- whatever the areas: the picture of some bytes and of some store, or why there is none
abbrev pub TellsDraw : Geometry → List ℕ → ℕ → Type 0
TellsDraw g text status =
    ((areas : List (List ℕ)) × (store : StoreText) × ShowsPicture g store areas text status)
    ⊎ ((fault : RecoverFault) × (text ≡ stop_text fault) × (status ≡ stop_status fault))

-- of these areas, unless a device fails or there is no memory
abbrev pub DrawsAreas : {D : Type 0} (a : Ghosts D) → Geometry → List D → Option (List ℕ) → Option (List ℕ) → ℕ → Type 0
DrawsAreas a g areas held holds status =
    HaveLengths a g areas → AreHonest a areas
    → Adds (λ text end. Stops text end
    ⊎ (ShowsPicture g (store_of g (map a.now areas)) (map a.now areas) text end
    ⊎ StopsDump (store_of g (map a.now areas)) text end)) held holds status

module _ {D : Type 0} (a : Ghosts D) where
  -- the picture is that of what these areas read as
  pub record FindsPicture (g : Geometry) (areas : List D) (picture : StorePicture) : Type 0 where
    pub lengths : HaveLengths a g areas
    pub bytes : List (List ℕ)
    pub store : StoreText
    pub of : IsPictureOf g store bytes picture
    pub same : AreHonest a areas → (bytes ≡ map a.now areas) × (store ≡ store_of g (map a.now areas))
