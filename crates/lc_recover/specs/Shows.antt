-- What a stop may leave of the areas while a recovery writes.
use Rattle.std.specs.Prelude.{◌≡◌, ℕ, ◌+◌, ◌<◌, ◌⊎◌, true, List, [], Some, slice_get, slice_index_or}
use Rattle.lc_disk.specs.Area.{IsImage}
use Rattle.lc_disk.specs.declared.area.Area.{Ghosts}
use Rattle.lc_record.specs.Content.{Content, segment_of}
use Rattle.lc_record.specs.declared.geometry.Geometry.{Geometry}
use Rattle.lc_log.specs.LogText.{IsLogText}
use Rattle.lc_log.specs.NodeLog.{LeavesOnly, IsWithOrWithout}
use Rattle.lc_model.specs.Merge.{Page, StoreText}
use Rattle.lc_model.specs.Stored.{page_bytes}
use Rattle.lc_recover.specs.Pages.{page_read, kept_page}
use Rattle.lc_recover.specs.declared.segment_pages.SegmentPages.{SegmentPages}

-- a page's part of the result, under the segment's number
abbrev pub new_page : Content → (ℕ → ℕ) → ℕ → ℕ → Page
new_page content numbers segment page = record { sequence = numbers segment; bytes = page_bytes segment page content }

module _ {D : Type 0} (a : Ghosts D) where
  -- whatever a stop leaves of the areas has the store's logs, and each of its pages as it is there or with its part of the
  -- result
  pub record ShowPages (g : Geometry) (areas : List D) (store : StoreText) (content : Content) (numbers : ℕ → ℕ) : Type 0 where
    pub logs : (log : ℕ) (area : D) → log < g.nodes → slice_get areas log ≡ Some area →
        LeavesOnly a area (λ words. IsLogText words (slice_index_or store.logs log []))
    pub pages : (s page : ℕ) (area : D) (text : Page) → slice_get areas (g.nodes + s) ≡ Some area →
        slice_get (segment_of (s + 1) store.pages) page ≡ Some text → a.honest area ≡ true →
        (image : List ℕ) → IsImage (a.now area) (a.dirty area) image →
        (page_read image page ≡ text) ⊎ (page_read image page ≡ new_page content numbers (s + 1) page)

  -- whatever a stop leaves of the areas has each of the store's logs or an empty one, and the pages as they are kept
  pub record ShowLogs (g : Geometry) (areas : List D) (store : StoreText) (segments : List SegmentPages) : Type 0 where
    pub logs : (log : ℕ) (area : D) → log < g.nodes → slice_get areas log ≡ Some area →
        LeavesOnly a area (IsWithOrWithout [] (slice_index_or store.logs log []))
    pub pages : (s page : ℕ) (area : D) (pages : SegmentPages) → slice_get areas (g.nodes + s) ≡ Some area →
        slice_get segments s ≡ Some pages → page < g.pages → a.honest area ≡ true →
        (image : List ℕ) → IsImage (a.now area) (a.dirty area) image → page_read image page ≡ kept_page pages page
