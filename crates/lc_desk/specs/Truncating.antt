-- Of a desk: what a truncation of a node's log is: its flush, the writes of the pages that are due, none of which
-- begins where one is blocked, and its reset, up to the first refusal.
use Rattle.std.specs.Prelude.{ℕ, ◌||◌, Bool, false, nat_lt, Option, Some, None}
use Rattle.std.specs.Option.{unwrap_or}
use Rattle.lc_page.specs.PageVector.{entry_at, is_dirty}
use Rattle.lc_page.specs.Writing.{draft_of}
use Rattle.lc_token.specs.declared.token.Token.{Token}
use Rattle.lc_desk.specs.PageState.{is_begun}
use Rattle.lc_desk.specs.declared.page_state.PageState.{PageState}
use Rattle.lc_desk.specs.declared.page_state.PageState.TheVariants.{AtRest, UnderWay, Failed}

-- a write of the page has begun, and is not over
abbrev pub begun_at : Option PageState → Bool
begun_at None = false
begun_at (Some state) = is_begun state

-- the token stands here, and the page is dirty, or its write has begun
abbrev pub due_of : ℕ → Bool → Option Token → Bool
due_of page begun None = false
due_of page begun (Some token) = is_dirty (entry_at token.pages page) || begun

-- the number that the write of a page which is under way puts in place
abbrev pub under_way_of : PageState → Option ℕ
under_way_of AtRest = None
under_way_of (UnderWay write) = Some (draft_of write).seq
under_way_of Failed = None

abbrev pub under_way_at : Option PageState → Option ℕ
under_way_at None = None
under_way_at (Some state) = under_way_of state

-- the token stands here, and the page was changed under a greater number than the disk has, or will have after the
-- write that is under way
abbrev pub newer_of : ℕ → Option ℕ → Option Token → Bool
newer_of page under_way None = false
newer_of page under_way (Some token) = nat_lt (unwrap_or under_way (entry_at token.pages page).stable) (entry_at token.pages page).touched
