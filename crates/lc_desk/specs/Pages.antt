-- Of a desk: the areas of the segments and the writes of their pages, against the numbers.
use Rattle.std.specs.Prelude.{◌≡◌, ℕ, ◌+◌, ◌<◌, ◌≤◌, Bool, true, false, List, length, Some, Result, Ok, Err, IfOk, slice_get, slice_index_or, slice_set}
use Rattle.lc_disk.specs.declared.area.Area.{Ghosts}
use Rattle.lc_record.specs.declared.geometry.Geometry.{Geometry}
use Rattle.lc_page.specs.Page.{Page, page_in}
use Rattle.lc_page.specs.PageWrite.{SettledIn, HasPage, IsBegun, IsEither, drafted}
use Rattle.lc_page.specs.Writing.{IsUnderWay, calls_of, draft_of}
use Rattle.lc_page.specs.declared.draft.Draft.{Draft}
use Rattle.lc_page.specs.declared.fault.PageFault.{PageFault}
use Rattle.lc_page.specs.declared.writing.Writing.{Writing}
use Rattle.lc_model.specs.Merge.{Page as StorePage}
use Rattle.lc_model.specs.Moves.{page_now}
use Rattle.lc_model.specs.State.{Setting, State}
use Rattle.lc_model.specs.Stored.{Shows}
use Rattle.lc_settled.specs.Numbers.{Numbers}
use Rattle.lc_rest.specs.Pages.{as_read}
use Rattle.lc_settled.specs.Settled.{begun_number}
use Rattle.lc_settled.specs.Turns.{called, page_settled}
use Rattle.lc_desk.specs.declared.page_progress.PageProgress.{PageProgress}
use Rattle.lc_desk.specs.declared.page_progress.PageProgress.TheVariants.{Stepped, Written}
use Rattle.lc_desk.specs.declared.page_state.PageState.{PageState}
use Rattle.lc_desk.specs.declared.page_state.PageState.TheVariants.{AtRest, UnderWay, Failed}
use Rattle.lc_desk.specs.declared.pages.Pages.{Pages}

-- so many calls of a page write are made, which is to put this page in place; from the fifth on a stop may leave it
pub record HasBegun (segment page calls : ℕ) (new : Page) (x : Numbers) : Type 0 where
  pub calls_are : x.calls segment page ≡ calls
  pub text : StorePage
  pub begun : x.disks.begun segment page ≡ Some text
  pub text_is : new ≡ as_read text
  pub opened : 5 ≤ calls → x.disks.opened segment page ≡ Some text

-- a draft is of the page as it is now, and goes where what the disk says of the page leaves room
pub record IsOfNow (m : Setting) (s : State) (segment : ℕ) (draft : Draft) (gate : Bool) (x : Numbers) : Type 0 where
  pub text_is : drafted draft ≡ as_read (page_now m s x.disks segment draft.page)
  pub begun : IsBegun draft gate (x.texts segment draft.page)

-- a page write has begun, or its first call failed; the other pages stand as before
abbrev pub BeginsIn : List PageState → Draft → Bool → List PageState → Type 0
BeginsIn olds draft true news = (write : Writing) × (draft_of write ≡ draft) × (calls_of write ≡ 1) × (news ≡ slice_set olds draft.page (UnderWay write))
BeginsIn olds draft false news = news ≡ slice_set olds draft.page Failed

-- it has gone on, is over, or has failed
abbrev pub StepsIn : List PageState → ℕ → Writing → Result PageProgress PageFault → List PageState → Type 0
StepsIn olds page write (Ok (Stepped calls)) news =
    (next : Writing) × (draft_of next ≡ draft_of write) × (calls_of next ≡ calls) × (calls ≡ calls_of write + 1) × (news ≡ slice_set olds page (UnderWay next))
StepsIn olds page write (Ok (Written number)) news = (calls_of write ≡ 5) × (number ≡ (draft_of write).seq) × (news ≡ slice_set olds page AtRest)
StepsIn olds page write (Err fault) news = news ≡ slice_set olds page Failed

-- the numbers after a call of a page write that is under way
abbrev pub numbers_behind : Setting → State → Numbers → ℕ → ℕ → Result PageProgress PageFault → Numbers
numbers_behind m s x segment page (Ok (Stepped calls)) = called m s x segment page calls
numbers_behind m s x segment page (Ok (Written number)) = page_settled x segment page
numbers_behind m s x segment page (Err fault) = called m s x segment page (x.calls segment page + 1)

-- what the call has come to is what the numbers say
abbrev pub IsProgress : Numbers → ℕ → ℕ → PageProgress → Type 0
IsProgress x segment page (Stepped calls) = (calls ≡ x.calls segment page + 1) × (1 ≤ x.calls segment page) × (x.calls segment page < 5)
IsProgress x segment page (Written number) = (x.calls segment page ≡ 5) × (number ≡ begun_number (x.disks.begun segment page))

-- in this image of the area of a segment the page is one that the numbers allow
pub record IsStored (segment page : ℕ) (image : List ℕ) (x : Numbers) : Type 0 where
  pub text : StorePage
  pub reads : page_in image page ≡ as_read text
  pub shows : Shows x.disks segment page text

module _ {D : Type 0} (a : Ghosts D) where
  -- no write of the page is under way: it is the one on the disk, and the disk says of it what is known
  pub record IsAtRest (area : D) (segment page : ℕ) (x : Numbers) : Type 0 where
    pub no_calls : x.calls segment page ≡ 0
    pub settled : SettledIn a area page (x.texts segment page)
    pub reads : a.honest area ≡ true → page_in (a.now area) page ≡ as_read (x.disks.page segment page)

  -- a write of the page is between two of its calls
  pub record IsBetween (area : D) (segment page : ℕ) (write : Writing) (x : Numbers) : Type 0 where
    pub page_is : (draft_of write).page ≡ page
    pub begun : HasBegun segment page (calls_of write) (drafted (draft_of write)) x
    pub under_way : IsUnderWay a area write (x.texts segment page) (as_read (x.disks.page segment page))

  -- a call of its write failed: before the fifth the page is as it was, and else it is that or the new one
  pub record HasFailed (area : D) (segment page : ℕ) (x : Numbers) : Type 0 where
    pub calls : ℕ
    pub some : 1 ≤ calls
    pub most : calls ≤ 6
    pub new : Page
    pub begun : HasBegun segment page calls new x
    pub old : calls < 5 → HasPage a area page (λ it. it ≡ as_read (x.disks.page segment page))
    pub either : HasPage a area page (IsEither (as_read (x.disks.page segment page)) new)

  abbrev pub IsPageAt : D → ℕ → ℕ → PageState → Numbers → Type 0
  IsPageAt area segment page AtRest x = IsAtRest area segment page x
  IsPageAt area segment page (UnderWay write) x = IsBetween area segment page write x
  IsPageAt area segment page Failed x = HasFailed area segment page x

  -- the area of a segment and its pages as they stand
  pub record FitsArea (g : Geometry) (segment : ℕ) (pages : Pages D a) (x : Numbers) : Type 0 where
    pub bytes : a.honest pages.area ≡ true → (at : ℕ) → slice_index_or (a.now pages.area) at 0 < 256
    pub count : length pages.writes.items ≡ g.pages
    pub each : (page : ℕ) (state : PageState) → slice_get pages.writes.items page ≡ Some state → IsPageAt pages.area segment page state x

  -- those of all segments
  pub record FitsPages (m : Setting) (segments : List (Pages D a)) (x : Numbers) : Type 0 where
    pub all_segments : length segments ≡ m.geometry.segments
    pub each : (k : ℕ) (pages : Pages D a) → slice_get segments k ≡ Some pages → FitsArea m.geometry (k + 1) pages x

  -- the first call of a write of a page that is at rest, also where it failed: whatever numbers the area fitted, with one
  -- call made it fits
  abbrev pub FollowsBegin : Pages D a → Draft → Bool → Pages D a → Type 0
  FollowsBegin old draft gate new =
      (m : Setting) (s : State) (segment : ℕ) (x : Numbers) → FitsArea m.geometry segment old x → slice_get old.writes.items draft.page ≡ Some AtRest
      → IsOfNow m s segment draft gate x → FitsArea m.geometry segment new (called m s x segment draft.page 1)

  -- the next call, also where it failed
  abbrev pub FollowsNext : Pages D a → ℕ → Result PageProgress PageFault → Pages D a → Type 0
  FollowsNext old page result new =
      (m : Setting) (s : State) (segment : ℕ) (x : Numbers) → FitsArea m.geometry segment old x → FitsArea m.geometry segment new (numbers_behind m s x segment page result)

  -- and it has come to what they say
  abbrev pub TellsNumbers : Pages D a → ℕ → Result PageProgress PageFault → Type 0
  TellsNumbers old page result = (g : Geometry) (segment : ℕ) (x : Numbers) → FitsArea g segment old x → IfOk result (IsProgress x segment page)
