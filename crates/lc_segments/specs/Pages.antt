-- How the area of a segment's pages stands to what the segment's token says of them.
use Rattle.std.specs.Prelude.{◌≡◌, ◌⊎◌, ℕ, ◌*◌, ◌^◌, ◌<◌, ◌≤◌, true, false, max, List, length, take, drop, if◌then◌else◌}
use Rattle.lc_disk.specs.declared.area.Area.{Ghosts}
use Rattle.lc_page.specs.declared.page_entry.PageEntry.{PageEntry}
use Rattle.lc_page.specs.Page.{page_in}
use Rattle.lc_page.specs.PageVector.{entry_at, entry_text, is_dirty, settled}
use Rattle.lc_page.specs.PageWrite.{SettledIn}
use Rattle.lc_token.specs.declared.token.Token.{Token}
use Rattle.lc_token.specs.Token.{AreClean}

-- the bytes of a page
abbrev pub page_bytes : List ℕ → ℕ → List ℕ
page_bytes bytes page = take 256 (drop (page * 256) bytes)

module _ {D : Type 0} (a : Ghosts D) where
  -- in every image the area says of the page what its entry does, and where the page is not dirty, and was written under this
  -- number or a later one, it has the segment's bytes
  pub record FitsPage (since : ℕ) (area : D) (bytes : List ℕ) (page : ℕ) (entry : PageEntry) : Type 0 where
    pub settled_in : SettledIn a area page (entry_text entry)
    pub same : is_dirty entry ≡ false → since ≤ entry.stable → a.honest area ≡ true → (page_in (a.now area) page).content ≡ page_bytes bytes page

  -- the page has the segment's bytes
  abbrev pub HasBytes : D → List ℕ → ℕ → Type 0
  HasBytes area bytes page = a.honest area ≡ true → (page_in (a.now area) page).content ≡ page_bytes bytes page

  -- each page that this token calls dirty has them
  abbrev pub HaveBytes : D → Token → List ℕ → Type 0
  HaveBytes area token bytes = (page : ℕ) → page < length token.pages → is_dirty (entry_at token.pages page) ≡ true → HasBytes area bytes page

  -- so it does of each page of a segment with these bytes, whose token this is; nobody refers to a page, and no entry is ahead
  -- of the token
  pub record FitsToken (since : ℕ) (area : D) (token : Token) (bytes : List ℕ) : Type 0 where
    pub long : length bytes ≡ length token.pages * 256
    pub few : length token.pages ≤ 1024
    pub room : length token.pages * 544 ≤ length (a.now area)
    pub small : token.seq ≤ 2 ^ 60
    pub free : (page : ℕ) → page < length token.pages → (entry_at token.pages page).uncommitted ≡ 0
    pub stable : (page : ℕ) → page < length token.pages → (entry_at token.pages page).stable ≤ token.seq
    pub touched : (page : ℕ) → page < length token.pages → (entry_at token.pages page).touched ≤ token.seq
    pub each : (page : ℕ) → page < length token.pages → FitsPage since area bytes page (entry_at token.pages page)

-- what is clean up to now: where no page was dirty it is as it was, and else it is the token's number, if that is more
abbrev pub IsCleanNow : Token → ℕ → Type 0
IsCleanNow old clean = (AreClean old.pages × (clean ≡ old.clean)) ⊎ (¬ AreClean old.pages × (clean ≡ max old.clean old.seq))

-- the entry of a page once it was written under the token's number, if it was dirty
abbrev pub entry_after : Token → ℕ → PageEntry
entry_after old page = if is_dirty (entry_at old.pages page) then settled (entry_at old.pages page) old.seq else entry_at old.pages page

-- the token once each of its dirty pages was written under its number
pub record AreWritten (old new : Token) : Type 0 where
  pub same_segment : new.segment ≡ old.segment
  pub same_seq : new.seq ≡ old.seq
  pub same_count : length new.pages ≡ length old.pages
  pub each : (page : ℕ) → page < length old.pages → entry_at new.pages page ≡ entry_after old page
  pub clean_now : IsCleanNow old new.clean
