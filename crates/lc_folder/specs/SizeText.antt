-- What the file of a store's size says.
use Rattle.std.specs.Prelude.{◌≡◌, ℕ, List, ◌++◌, codes, decimal}
use Rattle.lc_record.specs.declared.geometry.Geometry.{Geometry}

-- five lines: the format, and how many there are of each thing but threads
abbrev pub size_file_text : Geometry → List ℕ
size_file_text g =
    codes "format 1\nnodes " ++ decimal g.nodes ++ codes "\nsegments " ++ decimal g.segments
    ++ codes "\npages " ++ decimal g.pages ++ codes "\nwords " ++ decimal g.words ++ codes "\n"

-- the two stores have as many of each thing but threads
pub record IsSameSize (g h : Geometry) : Type 0 where
  pub nodes : g.nodes ≡ h.nodes
  pub segments : g.segments ≡ h.segments
  pub pages : g.pages ≡ h.pages
  pub words : g.words ≡ h.words
