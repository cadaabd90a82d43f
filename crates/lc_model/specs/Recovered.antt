-- What a recovery leaves on the disks.
use Rattle.std.specs.Prelude.{◌≡◌, ℕ, ◌+◌, ◌*◌, ◌<◌, false, ◌⊎◌, [], map, length, is_some, replicate, All, ◌≤◌, slice_index_or, Some, None, Contains, IsTrue, slice_get}
use Rattle.lc_record.specs.Content.{Content, segment_of}
use Rattle.lc_record.specs.Geometry.{segment_len}
use Rattle.lc_record.specs.declared.geometry.Geometry.{Geometry}
use Rattle.lc_record.specs.declared.record.Record.{Record}
use Rattle.lc_record.specs.Newest.{number_or_zero, byte_of, has_byte}
use Rattle.lc_model.specs.Merge.{Page, StoreText, all_records}
use Rattle.lc_model.specs.Stored.{Disks, page_bytes}

-- a record above the page's sequence has a byte on it
abbrev pub IsBehind : StoreText → ℕ → ℕ → Page → Type 0
IsBehind store segment page text =
    (r : Record) × Contains (all_records store) r × (offset : ℕ) × (offset < 256)
    × IsTrue (has_byte segment (page * 256 + offset) text.sequence r)

-- such a page is written with its part of the result, under the segment's number; any other stays
abbrev pub IsRenewed : StoreText → Content → (ℕ → ℕ) → ℕ → ℕ → Page → Page → Type 0
IsRenewed store content numbers segment page old new =
    (IsBehind store segment page old × (new.sequence ≡ numbers segment) × (new.bytes ≡ page_bytes segment page content))
    ⊎ ((IsBehind store segment page old → ⊥) × (new ≡ old))

-- all pages of a store are renewed so
abbrev pub AreRenewed : StoreText → Content → (ℕ → ℕ) → (ℕ → ℕ → Page) → Type 0
AreRenewed store content numbers pages =
    (segment page : ℕ) (old : Page) → slice_get (segment_of segment store.pages) page ≡ Some old →
    IsRenewed store content numbers segment page old (pages segment page)

-- the disks after a recovery: every log is empty, no write is under way
abbrev pub recovered_disks : (ℕ → ℕ) → (ℕ → ℕ → Page) → Disks
recovered_disks numbers pages = record {
  numbers = numbers;
  dropped = λ node. 0;
  resetting = λ node. false;
  page = pages;
  begun = λ segment page. None;
  opened = λ segment page. None;
}

-- each page is as before, or is written with its part of the result under the segment's number; the logs are as before
pub record IsPartlyRenewed (store new : StoreText) (content : Content) (numbers : ℕ → ℕ) : Type 0 where
  pub logs : new.logs ≡ store.logs
  pub shape : map length new.pages ≡ map length store.pages
  pub pages : (segment page : ℕ) (text : Page) → slice_get (segment_of segment new.pages) page ≡ Some text →
      (slice_get (segment_of segment store.pages) page ≡ Some text)
      ⊎ ((text.sequence ≡ numbers segment) × (text.bytes ≡ page_bytes segment page content))

-- no record comes on top of a page
abbrev pub AreStill : StoreText → Type 0
AreStill store =
    (segment page : ℕ) (text : Page) → slice_get (segment_of segment store.pages) page ≡ Some text →
    IsBehind store segment page text → ⊥

-- some logs are empty; the others and the pages are as before
pub record IsPartlyReset (store new : StoreText) : Type 0 where
  pub pages : new.pages ≡ store.pages
  pub count : length new.logs ≡ length store.logs
  pub logs : (node : ℕ) → (slice_index_or new.logs node [] ≡ slice_index_or store.logs node []) ⊎ (slice_index_or new.logs node [] ≡ [])

-- a record with a number of the segment has a byte of it, below this place
abbrev pub HasByte : ℕ → ℕ → Record → Type 0
HasByte segment n r =
    0 < number_or_zero segment r.locks → (place : ℕ) × (place < n) × IsTrue (is_some (byte_of segment place r.ranges))

-- a store that can be read: the pages of the geometry, of 256 bytes each, and records whose bytes are on them
pub record IsReadable (g : Geometry) (store : StoreText) : Type 0 where
  pub shape : map length store.pages ≡ replicate g.segments g.pages
  pub long : (segment page : ℕ) (text : Page) → slice_get (segment_of segment store.pages) page ≡ Some text → length text.bytes ≡ 256
  pub on_pages : (segment : ℕ) → 1 ≤ segment → segment ≤ g.segments → All (HasByte segment (segment_len g)) (all_records store)

-- a store of zeros
abbrev pub zero_store : Geometry → StoreText
zero_store g = record {
  logs = replicate g.nodes [];
  pages = replicate g.segments (replicate g.pages (record { sequence = 0; bytes = replicate 256 0 }));
}

-- its content
abbrev pub zero_content : Geometry → Content
zero_content g = replicate g.segments (replicate (segment_len g) 0)
