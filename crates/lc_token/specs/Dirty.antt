-- The pages of a segment that are still to be written.
use Rattle.std.specs.Prelude.{◌↔◌, ℕ, ◌<◌, List, AllPairs, Contains}
use Rattle.lc_page.specs.declared.page_entry.PageEntry.{PageEntry}
use Rattle.lc_token.specs.Token.{IsDirtyPage}

-- these numbers ascend, and are those of the dirty pages, each once
pub record AreDirtyPages (pages : List PageEntry) (numbers : List ℕ) : Type 0 where
  pub ascend : AllPairs (λ a b. a < b) numbers
  pub each : (page : ℕ) → Contains numbers page ↔ IsDirtyPage pages page
