-- The pages of a store and of an area, each as the other reads it.
use Rattle.std.specs.Prelude.{ℕ, List}
use Rattle.lc_page.specs.Page.{Page, page_in}
use Rattle.lc_model.specs.Merge.{Page as StorePage}

-- a page of a store, as an area reads it
abbrev pub as_read : StorePage → Page
as_read text = record { sequence = text.sequence; content = text.bytes }

-- a page of an area, as a store has it
abbrev pub page_read : List ℕ → ℕ → StorePage
page_read area page = record { sequence = (page_in area page).sequence; bytes = (page_in area page).content }
