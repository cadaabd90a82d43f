-- The limits of a store.
use Rattle.std.specs.Prelude.{◌≡◌, ℕ, ◌≤◌, ◌*◌}
use Rattle.lc_record.specs.declared.geometry.Geometry.{Geometry}

-- each of these numbers lies in its range
pub record IsGeometry (nodes threads segments pages words : ℕ) : Type 0 where
  pub some_nodes : 1 ≤ nodes
  pub few_nodes : nodes ≤ 8
  pub some_threads : 1 ≤ threads
  pub few_threads : threads ≤ 16
  pub some_segments : 1 ≤ segments
  pub few_segments : segments ≤ 16
  pub some_pages : 1 ≤ pages
  pub few_pages : pages ≤ 1024
  pub some_words : 64 ≤ words
  pub few_words : words ≤ 4096

-- the geometry has these numbers
pub record HasNumbers (g : Geometry) (nodes threads segments pages words : ℕ) : Type 0 where
  pub nodes_are : g.nodes ≡ nodes
  pub threads_are : g.threads ≡ threads
  pub segments_are : g.segments ≡ segments
  pub pages_are : g.pages ≡ pages
  pub words_are : g.words ≡ words

-- the bytes of a segment, of 256 in a page
abbrev pub segment_len : Geometry → ℕ
segment_len g = g.pages * 256
