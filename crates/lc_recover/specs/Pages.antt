-- The pages of a segment, as an area reads and as they are kept.
use Rattle.std.specs.Prelude.{◌≡◌, ℕ, ◌*◌, ◌<◌, List, length, map, take, drop}
use Rattle.lc_record.specs.Marks.{counting}
use Rattle.lc_page.specs.Page.{page_in, text_in}
use Rattle.lc_page.specs.PageVector.{entry_at, new_entry}
use Rattle.lc_model.specs.Merge.{Page}
use Rattle.lc_recover.specs.declared.segment_pages.SegmentPages.{SegmentPages}

-- a page of an area
abbrev pub page_read : List ℕ → ℕ → Page
page_read area page = record { sequence = (page_in area page).sequence; bytes = (page_in area page).content }

-- so many pages of an area
abbrev pub pages_read : ℕ → List ℕ → List Page
pages_read pages area = map (page_read area) (counting 0 pages)

-- the bytes of a page that is kept
abbrev pub bytes_of_page : SegmentPages → ℕ → List ℕ
bytes_of_page pages page = take 256 (drop (page * 256) pages.bytes.items)

-- a page that is kept
abbrev pub kept_page : SegmentPages → ℕ → Page
kept_page s page = record { sequence = (entry_at s.texts page).stable; bytes = bytes_of_page s page }

-- all that are kept of a segment
abbrev pub kept_pages : SegmentPages → List Page
kept_pages s = map (kept_page s) (counting 0 (length s.texts))

-- so many pages of an area are kept: what it says of each, and the bytes of each
pub record AreKept (area : List ℕ) (pages : ℕ) (s : SegmentPages) : Type 0 where
  pub count : length s.texts ≡ pages
  pub len : length s.bytes.items ≡ pages * 256
  pub entries : (page : ℕ) → page < pages → entry_at s.texts page ≡ new_entry (text_in area page)
  pub bytes : (page : ℕ) → page < pages → bytes_of_page s page ≡ (page_in area page).content
