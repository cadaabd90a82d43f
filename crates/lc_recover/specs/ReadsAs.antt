-- What areas of some bytes read as, by the grammar of records alone.
use Rattle.std.specs.Prelude.{◌≡◌, ℕ, List, length, map, take, drop, Some, slice_get}
use Rattle.lc_record.specs.Words.{words_of}
use Rattle.lc_record.specs.declared.geometry.Geometry.{Geometry}
use Rattle.lc_record.specs.declared.record.Record.{Record}
use Rattle.lc_log.specs.LogText.{IsLogText}
use Rattle.lc_model.specs.Merge.{StoreText}
use Rattle.lc_recover.specs.Pages.{pages_read}

-- areas of these bytes read as this store: the words of each log are its records, one after another, and then a rest that
-- begins no record; and each page is the one in the slot that counts
pub record ReadsAs (g : Geometry) (areas : List (List ℕ)) (store : StoreText) : Type 0 where
  pub count : length store.logs ≡ length (take g.nodes areas)
  pub logs : (log : ℕ) (bytes : List ℕ) (records : List Record)
      → slice_get (take g.nodes areas) log ≡ Some bytes → slice_get store.logs log ≡ Some records
      → IsLogText (words_of bytes) records
  pub pages : store.pages ≡ map (pages_read g.pages) (drop g.nodes areas)
