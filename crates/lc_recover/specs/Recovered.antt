-- What a recovery has made of a store.
use Rattle.std.specs.Prelude.{◌≡◌, ◌≢◌, ℕ, ◌+◌, ◌-◌, ◌*◌, ◌%◌, ◌^◌, ◌<◌, ◌≤◌, true, false, List, [], ◌∷◌, length, map, None, Some, slice_get, slice_index, slice_index_or}
use Rattle.std.specs.Option.{unwrap_or}
use Rattle.lc_disk.specs.Area.{IsClean}
use Rattle.lc_disk.specs.declared.area.Area.{Ghosts}
use Rattle.lc_record.specs.Content.{Content, segment_of}
use Rattle.lc_record.specs.Marks.{counting}
use Rattle.lc_record.specs.declared.geometry.Geometry.{Geometry}
use Rattle.lc_page.specs.Page.{page_in, text_in}
use Rattle.lc_page.specs.PageVector.{entry_at, entry_text}
use Rattle.lc_page.specs.declared.page_text.PageText.{PageText}
use Rattle.lc_model.specs.Merge.{Page, StoreText, MergesTo}
use Rattle.lc_model.specs.Recovered.{AreRenewed, IsReadable}
use Rattle.lc_recover.specs.Pages.{bytes_of_page}
use Rattle.lc_recover.specs.Reads.{AllMergeTo, AreHonest}
use Rattle.lc_recover.specs.declared.segment_pages.SegmentPages.{SegmentPages}

-- a page: what its area says of it, and its bytes
pub record RecoveredPage : Type 0 where
  pub text : PageText
  pub bytes : List ℕ

-- a store with empty logs: its areas, the number of each segment from segment 1 on, and the pages of each
pub record RecoveredStore (D : Type 0) : Type 0 where
  pub geometry : Geometry
  pub areas : List D
  pub sequences : List ℕ
  pub pages : List (List RecoveredPage)

-- the pages that are kept of a segment
abbrev pub recovered_pages : SegmentPages → List RecoveredPage
recovered_pages s = map (λ page. record { text = entry_text (entry_at s.texts page); bytes = bytes_of_page s page }) (counting 0 (length s.texts))

-- its sequence and bytes
abbrev pub page_read : RecoveredPage → Page
page_read p = record { sequence = p.text.seq; bytes = p.bytes }

-- a page of no store
abbrev pub no_page : RecoveredPage
no_page = record { text = record { seq = 0; slot = None; gates = false ∷ false ∷ [] }; bytes = [] }

module _ {D : Type 0} where
  -- the number of a segment
  abbrev pub sequence_of : RecoveredStore D → ℕ → ℕ
  sequence_of r segment = slice_index_or r.sequences (segment - 1) 0

  -- a page of a segment
  abbrev pub page_of : RecoveredStore D → ℕ → ℕ → RecoveredPage
  page_of r segment page = unwrap_or (slice_get (segment_of segment r.pages) page) no_page

  -- its sequence and bytes
  abbrev pub page_read_of : RecoveredStore D → ℕ → ℕ → Page
  page_read_of r segment page = page_read (page_of r segment page)

-- the number of each segment is there, at most 2^60, and as many pages of 256 bytes as the geometry says, none of which has a
-- greater sequence than its segment's number
pub record HasPages (g : Geometry) (segments : List SegmentPages) (numbers : List ℕ) : Type 0 where
  pub count : length segments ≡ g.segments
  pub numbers_count : length numbers ≡ g.segments
  pub entries : (s : ℕ) (pages : SegmentPages) → slice_get segments s ≡ Some pages → length pages.texts ≡ g.pages
  pub bytes : (s : ℕ) (pages : SegmentPages) → slice_get segments s ≡ Some pages → length pages.bytes.items ≡ g.pages * 256
  pub small : (s number : ℕ) → slice_get numbers s ≡ Some number → number ≤ 2 ^ 60
  pub within : (s page number : ℕ) (pages : SegmentPages) → slice_get segments s ≡ Some pages → slice_get numbers s ≡ Some number → page < g.pages →
      (entry_at pages.texts page).stable ≤ number

module _ {D : Type 0} (a : Ghosts D) where
  -- Whatever the areas are: the reads of them gave a store that merges to a result. Each page on which some record of it is
  -- newer has its part of the result, under its segment's number, and any other is as it was read. Where all areas are honest
  -- they have that result.
  pub record IsMade (r : RecoveredStore D) : Type 0 where
    pub store : StoreText
    pub content : Content
    pub numbers : ℕ → ℕ
    pub merges : MergesTo store content numbers
    pub readable : IsReadable r.geometry store
    pub sequences : (segment : ℕ) → 1 ≤ segment → segment ≤ r.geometry.segments → sequence_of r segment ≡ numbers segment
    pub small : (segment : ℕ) → 1 ≤ segment → segment ≤ r.geometry.segments → numbers segment ≤ 2 ^ 60
    pub renewed : AreRenewed store content numbers (page_read_of r)
    pub all : AreHonest a r.areas → AllMergeTo a r.geometry r.areas content numbers

  -- What is known of one area of the store: no position is dirty, a log begins with no open gate, and the area of a segment
  -- has each of its pages.
  pub record IsFinishedArea (r : RecoveredStore D) (k : ℕ) (area : D) : Type 0 where
    pub clean : IsClean (a.dirty area)
    pub closed : k < r.geometry.nodes → slice_index (a.now area) 0 % 256 ≢ 165
    pub texts : (s page : ℕ) → k ≡ r.geometry.nodes + s → page < r.geometry.pages → text_in (a.now area) page ≡ (page_of r (s + 1) page).text
    pub reads : (s page : ℕ) → k ≡ r.geometry.nodes + s → page < r.geometry.pages →
        page_in (a.now area) page ≡ record { sequence = (page_of r (s + 1) page).text.seq; content = (page_of r (s + 1) page).bytes }

  -- so is each area that keeps to the model of a disk, whatever the others do
  abbrev pub AreFinished : RecoveredStore D → Type 0
  AreFinished r = (k : ℕ) (area : D) → slice_get r.areas k ≡ Some area → a.honest area ≡ true → IsFinishedArea r k area
