-- The changes of one page, and the ranges that are put on it.
use Rattle.std.specs.Prelude.{◌⊎◌, ◌≡◌, ◌≢◌, ◌↔◌, ℕ, ◌+◌, ◌*◌, ◌<◌, ◌≤◌, Bool, not, ◌&&◌, ◌==◌, List, [], ◌∷◌, ◌++◌, length, filter, drop, Option, Some, All, Contains, slice_get}
use Rattle.std.specs.Option.{option_or}
use Rattle.lc_record.specs.Content.{segment_of}
use Rattle.lc_record.specs.Newest.{byte_of, IsByNumber}
use Rattle.lc_record.specs.declared.record.RangeData.{RangeData}
use Rattle.lc_model.specs.Merge.{Page, StoreText, all_records}
use Rattle.lc_recover.specs.StoreContents.{Names, AreAscending, IsIndex}
use Rattle.lc_recover.specs.declared.redo_range.RedoRange.{RedoRange}

-- it is of this page of a segment
abbrev pub IsOf : ℕ → ℕ → RedoRange → Type 0
IsOf segment page c = (c.segment ≡ segment) × (c.page ≡ page)

-- and it is of another one
abbrev pub IsOfAnother : ℕ → ℕ → RedoRange → Type 0
IsOfAnother segment page c = IsOf segment page c → ⊥

-- each change is of the range at its place
abbrev pub AreAt : List (List ℕ) → List RedoRange → List RangeData → Type 0
AreAt logs [] [] = Unit {0}
AreAt logs [] (r ∷ rs) = ⊥
AreAt logs (c ∷ cs) [] = ⊥
AreAt logs (c ∷ cs) (r ∷ rs) = Names logs c r × AreAt logs cs rs

-- the byte of a page with these ranges put on it, one after another
abbrev pub byte_with : ℕ → ℕ → List RangeData → List ℕ → ℕ → Option ℕ
byte_with segment page ranges bytes offset = option_or (byte_of segment (page * 256 + offset) ranges) (slice_get bytes offset)

-- the changes in front are all of the first one's page, and in an ascending list none after them is
pub record IsFirstPage (changes front : List RedoRange) : Type 0 where
  pub rest : List RedoRange
  pub whole : changes ≡ front ++ rest
  pub some : 1 ≤ length changes → 1 ≤ length front
  pub of_first : (first : RedoRange) → slice_get changes 0 ≡ Some first → All (IsOf first.segment first.page) front
  pub no_more : (first : RedoRange) → slice_get changes 0 ≡ Some first → AreAscending changes → All (IsOfAnother first.segment first.page) rest

-- these are the changes of one page, among all
pub record AreOfPage (changes : List RedoRange) (segment page : ℕ) (here : List RedoRange) : Type 0 where
  pub before : List RedoRange
  pub behind : List RedoRange
  pub whole : changes ≡ before ++ (here ++ behind)
  pub of_page : All (IsOf segment page) here
  pub none_before : All (IsOfAnother segment page) before
  pub none_behind : All (IsOfAnother segment page) behind

-- the ranges of a page's changes, put on its bytes one after another, make of each byte that of the record with the
-- greatest number
abbrev pub PagesMerge : Type 0
PagesMerge = (logs : List (List ℕ)) (store : StoreText) (changes here : List RedoRange) (segment page : ℕ) (text : Page) (ranges : List RangeData)
    → IsIndex logs store changes → AreOfPage changes segment page here
    → slice_get (segment_of segment store.pages) page ≡ Some text → AreAt logs here ranges
    → (offset : ℕ) → offset < 256
    → IsByNumber segment (page * 256 + offset) text.sequence (all_records store) (slice_get text.bytes offset) (byte_with segment page ranges text.bytes offset)

-- where the changes are those to be made, there are ranges that the page's are of
abbrev pub RangesStand : Type 0
RangesStand = (logs : List (List ℕ)) (store : StoreText) (changes here : List RedoRange) (segment page : ℕ)
    → IsIndex logs store changes → AreOfPage changes segment page here → (ranges : List RangeData) × AreAt logs here ranges

-- no two of these, one of each list, are of the same page
abbrev pub AreApart : List RedoRange → List RedoRange → Type 0
AreApart cs ds = All (λ (c : RedoRange). All (IsOfAnother c.segment c.page) ds) cs

-- where whole pages were taken from the front of an ascending list, the first page of the rest is whole again
abbrev pub TakenPageByPage : Type 0
TakenPageByPage = (changes taken rest front : List RedoRange) (first : RedoRange)
    → changes ≡ taken ++ rest → AreAscending changes → AreApart taken rest → IsFirstPage rest front → slice_get rest 0 ≡ Some first
    → AreOfPage changes first.segment first.page front × AreApart (taken ++ front) (drop (length front) rest)

-- The pages of a list of changes

-- a segment and a page
abbrev pub page_of : RedoRange → ℕ × ℕ
page_of c = (c.segment, c.page)

-- not the same
abbrev pub is_another : ℕ × ℕ → ℕ × ℕ → Bool
is_another p q = not ((p.0 == q.0) && (p.1 == q.1))

-- the pages that these changes are of, each once, in order
abbrev pub pages_of : List RedoRange → List (ℕ × ℕ)
pages_of [] = []
pages_of (c ∷ cs) = page_of c ∷ filter (is_another (page_of c)) (pages_of cs)

-- a page is among them exactly where some change is of it
abbrev pub AreListed : List RedoRange → Type 0
AreListed changes = (segment page : ℕ) → Contains (pages_of changes) (segment, page) ↔ ((c : RedoRange) × Contains changes c × IsOf segment page c)

-- no page stands twice
abbrev pub AreDifferent : List (ℕ × ℕ) → Type 0
AreDifferent [] = Unit {0}
AreDifferent (p ∷ ps) = All (λ q. p ≢ q) ps × AreDifferent ps

-- of an earlier segment, or an earlier one of the same
abbrev pub IsPageBefore : ℕ × ℕ → ℕ × ℕ → Type 0
IsPageBefore p q = (p.0 < q.0) ⊎ ((p.0 ≡ q.0) × (p.1 < q.1))

-- each page stands before all that follow
abbrev pub ArePagesAscending : List (ℕ × ℕ) → Type 0
ArePagesAscending [] = Unit {0}
ArePagesAscending (p ∷ ps) = All (IsPageBefore p) ps × ArePagesAscending ps

-- those of an ascending list: the first one's page, and those of what follows its changes
abbrev pub BeginWithTheFirst : List RedoRange → Type 0
BeginWithTheFirst changes = (front : List RedoRange) (first : RedoRange) → IsFirstPage changes front → slice_get changes 0 ≡ Some first → AreAscending changes →
    pages_of changes ≡ page_of first ∷ pages_of (drop (length front) changes)
