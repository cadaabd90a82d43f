-- Of a desk: how the writes of the pages of a segment stand.
use Rattle.std.specs.Prelude.{◌≡◌, ℕ, Bool, true, false, List, Some, slice_get}
use Rattle.lc_page.specs.Writing.{draft_of}
use Rattle.lc_page.specs.declared.writing.Writing.{Writing}
use Rattle.lc_desk.specs.declared.page_state.PageState.{PageState}
use Rattle.lc_desk.specs.declared.page_state.PageState.TheVariants.{AtRest, UnderWay, Failed}

-- each write that is under way is of the page of its place
abbrev pub AreNamed : List PageState → Type 0
AreNamed writes = (page : ℕ) (write : Writing) → slice_get writes page ≡ Some (UnderWay write) → (draft_of write).page ≡ page

-- a write of the page has begun, and is not over
abbrev pub is_begun : PageState → Bool
is_begun AtRest = false
is_begun (UnderWay write) = true
is_begun Failed = true
