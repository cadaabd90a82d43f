-- A page write between two of its calls.
use Rattle.std.proofs.Common.{◌≡◌, ℕ, ◌+◌, ◌*◌, ◌<◌, ◌≤◌, Bool, true, List, length, sym, ◌∙◌, inl, inr, Option, arith}
use Rattle.lc_disk.specs.declared.area.Area.{Ghosts}
use Rattle.lc_page.specs.declared.page_text.PageText.{PageText}
use Rattle.lc_page.specs.declared.writing.Writing.{Writing}
use Rattle.lc_page.specs.declared.writing.Writing.TheVariants.{AtClosing, AtClosed, AtFilling, AtFilled, AtOpening}
use Rattle.lc_page.specs.Page.{Page, page_in}
use Rattle.lc_page.specs.PageWrite.{drafted, IsEither, Shows, KeepsPage, HasPage}
use Rattle.lc_page.specs.Writing.{draft_of, calls_of, IsUnderWay, GoesOn}
use Rattle.lc_page.proofs.StateLemmas.{kept_closing, kept_closed, kept_filling, kept_filled, kept_opening, closing_shows, closed_shows, torn_shows, open_wins}

-- a page that has the old bytes has the old or the new ones
pub old_either : (now : List ℕ) (dirty : ℕ → Bool) (page : ℕ) (old new : Page) → Shows now dirty page (λ it. it ≡ old) → Shows now dirty page (IsEither old new)
old_either now dirty page old new shows = record { reads = inl shows.reads; images = λ image is. inl (shows.images image is) }

pub new_either : (now : List ℕ) (dirty : ℕ → Bool) (page : ℕ) (old new : Page) → Shows now dirty page (λ it. it ≡ new) → Shows now dirty page (IsEither old new)
new_either now dirty page old new shows = record { reads = inr shows.reads; images = λ image is. inr (shows.images image is) }

module _ {D : Type 0} (a : Ghosts D) where
  -- what is done beside a page that is under way
  pub kept_under_way : (old new : D) (writing : Writing) (text : PageText) (page : Page) → KeepsPage a (draft_of writing).page old new → IsUnderWay a old writing text page → IsUnderWay a new writing text page
  kept_under_way old new (AtClosing w) text page keeps is = λ honest.
      let was : a.honest old ≡ true = sym keeps.honest ∙ honest in kept_closing _ _ _ _ w.draft text page (keeps.inside was) (is was)
  kept_under_way old new (AtClosed w) text page keeps is = λ honest.
      let was : a.honest old ≡ true = sym keeps.honest ∙ honest in kept_closed _ _ _ _ w.draft text page (keeps.inside was) (is was)
  kept_under_way old new (AtFilling w) text page keeps is = λ honest.
      let was : a.honest old ≡ true = sym keeps.honest ∙ honest in kept_filling _ _ _ _ w.draft text page (keeps.inside was) (is was)
  kept_under_way old new (AtFilled w) text page keeps is = λ honest.
      let was : a.honest old ≡ true = sym keeps.honest ∙ honest in kept_filled _ _ _ _ w.draft text page (keeps.inside was) (is was)
  kept_under_way old new (AtOpening w) text page keeps is = λ honest.
      let was : a.honest old ≡ true = sym keeps.honest ∙ honest in kept_opening _ _ _ _ w.draft text page (keeps.inside was) (is was)

  -- what the area and its images have of the page
  pub old_under_way : (area : D) (writing : Writing) (text : PageText) (old : Page) → calls_of writing < 5 → IsUnderWay a area writing text old → HasPage a area (draft_of writing).page (λ page. page ≡ old)
  old_under_way area (AtClosing w) text old few is = λ honest. closing_shows _ _ w.draft text old (is honest)
  old_under_way area (AtClosed w) text old few is = λ honest. closed_shows _ _ w.draft text old (is honest)
  old_under_way area (AtFilling w) text old few is = λ honest. closed_shows _ _ w.draft text old (is honest).closed
  old_under_way area (AtFilled w) text old few is = λ honest. closed_shows _ _ w.draft text old (is honest).filling.closed
  old_under_way area (AtOpening w) text old few is = absurd (omega (arith, few))

  pub either_under_way : (area : D) (writing : Writing) (text : PageText) (old : Page) → (2 * (draft_of writing).page + 2) * 272 ≤ length (a.now area) → IsUnderWay a area writing text old
      → HasPage a area (draft_of writing).page (IsEither old (drafted (draft_of writing)))
  either_under_way area (AtClosing w) text old room is = λ honest. old_either _ _ _ old (drafted w.draft) (closing_shows _ _ w.draft text old (is honest))
  either_under_way area (AtClosed w) text old room is = λ honest. old_either _ _ _ old (drafted w.draft) (closed_shows _ _ w.draft text old (is honest))
  either_under_way area (AtFilling w) text old room is = λ honest. old_either _ _ _ old (drafted w.draft) (closed_shows _ _ w.draft text old (is honest).closed)
  either_under_way area (AtFilled w) text old room is = λ honest. old_either _ _ _ old (drafted w.draft) (closed_shows _ _ w.draft text old (is honest).filling.closed)
  either_under_way area (AtOpening w) text old room is = λ honest. torn_shows _ _ w.draft text old room (is honest).torn

  pub new_under_way : (area : D) (writing : Writing) (text : PageText) (old : Page) → calls_of writing ≡ 5 → (2 * (draft_of writing).page + 2) * 272 ≤ length (a.now area) → IsUnderWay a area writing text old
      → a.honest area ≡ true → page_in (a.now area) (draft_of writing).page ≡ drafted (draft_of writing)
  new_under_way area (AtClosing w) text old five room is honest = absurd (omega (arith, five))
  new_under_way area (AtClosed w) text old five room is honest = absurd (omega (arith, five))
  new_under_way area (AtFilling w) text old five room is honest = absurd (omega (arith, five))
  new_under_way area (AtFilled w) text old five room is honest = absurd (omega (arith, five))
  new_under_way area (AtOpening w) text old five room is honest = (open_wins _ _ w.draft text old room (is honest).torn (is honest).gate).1

  -- what a step does, from a write in one of the states

  module _ (area later : D) where
    abbrev pub LeavesEither : Writing → Type 0
    LeavesEither w = (text : PageText) (old : Page) → IsUnderWay a area w text old → HasPage a later (draft_of w).page (IsEither old (drafted (draft_of w)))

    abbrev pub LeavesOld : Writing → Type 0
    LeavesOld w = (text : PageText) (old : Page) → calls_of w < 4 → IsUnderWay a area w text old → HasPage a later (draft_of w).page (λ page. page ≡ old)

    abbrev pub LeadsTo : Option Writing → Writing → Type 0
    LeadsTo next w = (text : PageText) (old : Page) → IsUnderWay a area w text old → GoesOn a later (draft_of w) text old next
