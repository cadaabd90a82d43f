-- How far the pages of a segment on the disk have come.
use Rattle.std.specs.Prelude.{◌≡◌, ◌⊎◌, ℕ, ◌<◌, ◌≤◌, ◌^◌, true, max, min, Option, Some, None, List, length, slice_set}
use Rattle.lc_page.specs.declared.page_entry.PageEntry.{PageEntry}
use Rattle.lc_page.specs.PageVector.{entry_at, is_dirty, settled}
use Rattle.lc_token.specs.declared.token.Token.{Token}

-- the token of a segment all of whose records, up to this number, are on these pages on the disk
abbrev pub recovered_token : ℕ → ℕ → List PageEntry → Token
recovered_token segment number pages = record { segment = segment; seq = number; clean = number; pages = pages }

-- the page is one of these, and dirty; a page's number has 32 bits
abbrev pub IsDirtyPage : List PageEntry → ℕ → Type 0
IsDirtyPage pages page = (page < length pages) × (page < 2 ^ 32) × (is_dirty (entry_at pages page) ≡ true)

-- no page is dirty
abbrev pub AreClean : List PageEntry → Type 0
AreClean pages = (page : ℕ) → ¬ IsDirtyPage pages page

-- some dirty page has this number on the disk, and no dirty page a lower one
abbrev pub IsLeastStable : List PageEntry → ℕ → Type 0
IsLeastStable pages number =
    ((page : ℕ) × IsDirtyPage pages page × ((entry_at pages page).stable ≡ number))
    × ((page : ℕ) → IsDirtyPage pages page → number ≤ (entry_at pages page).stable)

-- some dirty page has no greater number on the disk
abbrev pub HasOlder : List PageEntry → ℕ → Type 0
HasOlder pages number = (page : ℕ) × IsDirtyPage pages page × ((entry_at pages page).stable ≤ number)

-- the least number that a dirty page has on the disk, if a page is dirty
abbrev pub IsOldestDirty : List PageEntry → Option ℕ → Type 0
IsOldestDirty pages None = AreClean pages
IsOldestDirty pages (Some number) = IsLeastStable pages number

-- the number that the pages on the disk have reached: the token's, or the least that a dirty page has
abbrev pub IsReached : ℕ → List PageEntry → ℕ → Type 0
IsReached seq pages reached = (AreClean pages × (reached ≡ seq)) ⊎ IsLeastStable pages reached

-- the least of a number, and of those before it
abbrev pub least_with : Option ℕ → ℕ → ℕ
least_with None number = number
least_with (Some least) number = min least number

-- the token once a page was written under a number: the page is settled, and `clean` has come to what the pages on the
-- disk have reached, if that is more
pub record IsWritten (old : Token) (page number : ℕ) (new : Token) : Type 0 where
  pub pages : new.pages ≡ slice_set old.pages page (settled (entry_at old.pages page) number)
  pub reached : ℕ
  pub is_reached : IsReached old.seq new.pages reached
  pub clean : new.clean ≡ max old.clean reached
  pub segment : new.segment ≡ old.segment
  pub seq : new.seq ≡ old.seq
