-- What a recovery would make of a store, as contracts see it.
use Rattle.std.specs.Prelude.{◌≡◌, ℕ, ◌-◌, ◌≤◌, List, Some, slice_get, slice_index_or}
use Rattle.lc_record.specs.Content.{Content, segment_of}
use Rattle.lc_record.specs.declared.geometry.Geometry.{Geometry}
use Rattle.lc_model.specs.Merge.{Page, StoreText, MergesTo}
use Rattle.lc_model.specs.Recovered.{IsBehind}
use Rattle.lc_recover.specs.Reading.{store_of}
use Rattle.lc_recover.specs.RecoveryPhase.{IsWriting}
use Rattle.lc_recover.specs.declared.page_writes.PageWrites.{PageWrites}

-- the store that was read, and the number of each segment after its recovery, from segment 1 on
pub record Foretold : Type 0 where
  pub geometry : Geometry
  pub store : StoreText
  pub sequences : List ℕ

-- as the page writes of a recovery have it
abbrev pub foretold : Geometry → PageWrites → Foretold
foretold g w = record { geometry = g; store = store_of w.kept.logs.items w.kept.segments.items; sequences = w.merged.numbers.items }

-- the number of a segment
abbrev pub sequence_of : Foretold → ℕ → ℕ
sequence_of f segment = slice_index_or f.sequences (segment - 1) 0

-- some record is newer than this page of the store
abbrev pub IsPageBehind : StoreText → ℕ → ℕ → Type 0
IsPageBehind store segment page = (text : Page) × (slice_get (segment_of segment store.pages) page ≡ Some text) × IsBehind store segment page text

-- the store merges to some result, of which these are the numbers
pub record IsForecast (f : Foretold) : Type 0 where
  pub content : Content
  pub numbers : ℕ → ℕ
  pub merges : MergesTo f.store content numbers
  pub sequences : (segment : ℕ) → 1 ≤ segment → segment ≤ f.geometry.segments → sequence_of f segment ≡ numbers segment

-- the page writes are those of a merge of all that is kept, and none has begun
pub record IsForetold (g : Geometry) (w : PageWrites) : Type 0 where
  pub sound : IsWriting g w
  pub same : sound.store ≡ store_of w.kept.logs.items w.kept.segments.items
  pub next : w.next ≡ 0
