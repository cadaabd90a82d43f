-- The writes of a segment's dirty pages, while they are under way together.
use Rattle.std.specs.Prelude.{◌≡◌, ◌≢◌, ℕ, ◌+◌, ◌*◌, ◌<◌, ◌≤◌, true, List, [], ◌∷◌, length}
use Rattle.lc_disk.specs.declared.area.Area.{Ghosts}
use Rattle.lc_page.specs.Page.{Page}
use Rattle.lc_page.specs.PageVector.{entry_at, entry_text, is_dirty}
use Rattle.lc_page.specs.Writing.{IsUnderWay, draft_of}
use Rattle.lc_page.specs.declared.writing.Writing.{Writing}
use Rattle.lc_token.specs.declared.token.Token.{Token}
use Rattle.lc_segments.specs.Pages.{FitsPage, HasBytes, entry_after, page_bytes}

-- none of these writes is of this page
abbrev pub IsOfNone : ℕ → List Writing → Type 0
IsOfNone page [] = Unit {0}
IsOfNone page (write ∷ writes) = ((draft_of write).page ≢ page) × IsOfNone page writes

-- no two of them are of one page
abbrev pub AreApart : List Writing → Type 0
AreApart [] = Unit {0}
AreApart (write ∷ writes) = IsOfNone (draft_of write).page writes × AreApart writes

module _ {D : Type 0} (a : Ghosts D) where
  -- the area has both slots of the page of each
  abbrev pub HaveRoom : D → List Writing → Type 0
  HaveRoom area [] = Unit {0}
  HaveRoom area (write ∷ writes) = ((2 * (draft_of write).page + 2) * 272 ≤ length (a.now area)) × HaveRoom area writes

  -- a write of a dirty page in front of this one, with the segment's bytes and under the token's number, is under way
  pub record IsWriteOf (area : D) (token : Token) (bytes : List ℕ) (front : ℕ) (write : Writing) : Type 0 where
    pub in_front : (draft_of write).page < front
    pub within : (draft_of write).page < length token.pages
    pub dirty : is_dirty (entry_at token.pages (draft_of write).page) ≡ true
    pub seq : (draft_of write).seq ≡ token.seq
    pub content : (draft_of write).bytes ≡ page_bytes bytes (draft_of write).page
    pub old : Page
    pub under_way : IsUnderWay a area write (entry_text (entry_at token.pages (draft_of write).page)) old

  -- so is each of these
  abbrev pub AreWritesOf : D → Token → List ℕ → ℕ → List Writing → Type 0
  AreWritesOf area token bytes front [] = Unit {0}
  AreWritesOf area token bytes front (write ∷ writes) = IsWriteOf area token bytes front write × AreWritesOf area token bytes front writes

  -- after the writes the page stands as it is to: where it was dirty it has the segment's bytes
  pub record IsOverAt (since : ℕ) (area : D) (token : Token) (bytes : List ℕ) (page : ℕ) : Type 0 where
    pub fits : FitsPage a since area bytes page (entry_after token page)
    pub wrote : is_dirty (entry_at token.pages page) ≡ true → HasBytes a area bytes page

  -- of the pages in front of this one the dirty ones are being written, or are written; the others stand as they did
  pub record AreUnderWay (since : ℕ) (area : D) (token : Token) (bytes : List ℕ) (front : ℕ) (writes : List Writing) : Type 0 where
    pub room : length token.pages * 544 ≤ length (a.now area)
    pub apart : AreApart writes
    pub each : AreWritesOf area token bytes front writes
    pub others : (page : ℕ) → page < front → page < length token.pages → IsOfNone page writes → IsOverAt since area token bytes page
    pub behind : (page : ℕ) → front ≤ page → page < length token.pages → FitsPage a since area bytes page (entry_at token.pages page)

  -- each page has the segment's bytes, under the token's number where it was dirty, and else where it was written under
  -- this number or a later one
  pub record AreOver (since : ℕ) (area : D) (token : Token) (bytes : List ℕ) : Type 0 where
    pub room : length token.pages * 544 ≤ length (a.now area)
    pub each : (page : ℕ) → page < length token.pages → IsOverAt since area token bytes page
