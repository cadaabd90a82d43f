-- How far the writing of pages has come.
use Rattle.std.specs.Prelude.{◌≡◌, ℕ, List, ◌++◌, length, Contains}
use Rattle.lc_recover.specs.Page.{IsOf}
use Rattle.lc_recover.specs.declared.redo_range.RedoRange.{RedoRange}

-- one of these changes is of the page
abbrev pub HasChange : List RedoRange → ℕ → ℕ → Type 0
HasChange changes segment page = (c : RedoRange) × Contains changes c × IsOf segment page c

-- so many changes are of pages that are written, and the others of others
pub record IsBetween (changes : List RedoRange) (next : ℕ) : Type 0 where
  pub front : List RedoRange
  pub back : List RedoRange
  pub all : changes ≡ front ++ back
  pub count : length front ≡ next
  pub apart : (segment page : ℕ) → HasChange front segment page → HasChange back segment page → ⊥
