-- A page write between two of its calls.
use Rattle.std.specs.Prelude.{◌≡◌, ℕ, ◌+◌, Bool, Option, Some, None, [], ◌∷◌}
use Rattle.lc_disk.specs.declared.area.Area.{Ghosts}
use Rattle.lc_page.specs.declared.page_text.PageText.{PageText}
use Rattle.lc_page.specs.declared.draft.Draft.{Draft}
use Rattle.lc_page.specs.declared.writing.Writing.{Writing}
use Rattle.lc_page.specs.declared.writing.Writing.TheVariants.{AtClosing, AtClosed, AtFilling, AtFilled, AtOpening}
use Rattle.lc_page.specs.Page.{Page, slot_at}
use Rattle.lc_page.specs.PageVector.{settled_text}
use Rattle.lc_page.specs.PageWrite.{drafted, behind_gate, Writes, Syncs, SettledIn, ClosingIn, ClosedIn, FillingIn, FilledIn, OpeningIn, HasPage}

-- what is written, and where
abbrev pub draft_of : Writing → Draft
draft_of (AtClosing w) = w.draft
draft_of (AtClosed w) = w.draft
draft_of (AtFilling w) = w.draft
draft_of (AtFilled w) = w.draft
draft_of (AtOpening w) = w.draft

-- how many of the six calls are done
abbrev pub calls_of : Writing → ℕ
calls_of (AtClosing w) = 1
calls_of (AtClosed w) = 2
calls_of (AtFilling w) = 3
calls_of (AtFilled w) = 4
calls_of (AtOpening w) = 5

-- one more of its calls is done; after the sixth there is nothing left
abbrev pub IsNextOf : Writing → Option Writing → Type 0
IsNextOf writing (Some next) = (draft_of next ≡ draft_of writing) × (calls_of next ≡ calls_of writing + 1)
IsNextOf writing None = calls_of writing ≡ 5

module _ {D : Type 0} (a : Ghosts D) where
  -- the device call that comes next
  abbrev pub Calls : Writing → D → D → Bool → Type 0
  Calls (AtClosing w) old new ok = Syncs a old new ok
  Calls (AtClosed w) old new ok = Writes a w.draft.page (slot_at w.draft.page w.draft.slot + 1) (behind_gate w.draft.seq w.draft.bytes) old new ok
  Calls (AtFilling w) old new ok = Syncs a old new ok
  Calls (AtFilled w) old new ok = Writes a w.draft.page (slot_at w.draft.page w.draft.slot) (165 ∷ []) old new ok
  Calls (AtOpening w) old new ok = Syncs a old new ok

  -- a page that the disk said this of, and that was this one, is under way
  abbrev pub IsUnderWay : D → Writing → PageText → Page → Type 0
  IsUnderWay area (AtClosing w) text old = ClosingIn a area w.draft text old
  IsUnderWay area (AtClosed w) text old = ClosedIn a area w.draft text old
  IsUnderWay area (AtFilling w) text old = FillingIn a area w.draft text old
  IsUnderWay area (AtFilled w) text old = FilledIn a area w.draft text old
  IsUnderWay area (AtOpening w) text old = OpeningIn a area w.draft text old

  -- the write is over: the page is the new one, settled under its number
  pub record IsOver (area : D) (draft : Draft) (text : PageText) : Type 0 where
    pub settled : SettledIn a area draft.page (settled_text text draft.seq)
    pub page : HasPage a area draft.page (λ page. page ≡ drafted draft)

  -- it goes on, or is over
  abbrev pub GoesOn : D → Draft → PageText → Page → Option Writing → Type 0
  GoesOn area draft text old (Some next) = IsUnderWay area next text old
  GoesOn area draft text old None = IsOver area draft text
