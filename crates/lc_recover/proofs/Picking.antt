-- The changes of one page, picked from all.
use Rattle.std.proofs.Common.{◌≡◌, ℕ, ◌+◌, ◌-◌, Some, List, ◌++◌, length, take, drop, All, ◌∙◌, ap, subst, arith}
use Rattle.std.specs.Prelude.{slice_get}
use Rattle.lc_record.proofs.ListLemmas.{slice_get-drop as get-drop}
use Rattle.lc_recover.proofs.MergedPage.{ascending_behind}
use Rattle.lc_recover.proofs.PageLemmas.{take_and_drop}
use Rattle.lc_recover.proofs.PagesOf.{all_behind}
use Rattle.lc_recover.specs.StoreContents.{AreAscending}
use Rattle.lc_recover.specs.Page.{IsOf, IsOfAnother, AreOfPage, IsFirstPage}
use Rattle.lc_recover.specs.declared.redo_range.RedoRange.{RedoRange}

-- none in front of the first of them is of the page
pub picked : (changes front : List RedoRange) (place segment page : ℕ) (first : RedoRange) → slice_get changes place ≡ Some first → IsOf segment page first
    → All (IsOfAnother segment page) (take place changes) → IsFirstPage (take (length changes - place) (drop place changes)) front → AreAscending changes → AreOfPage changes segment page front
picked changes front place segment page first is of none its ascending =
    let first_page : IsFirstPage (drop place changes) front = subst (λ (l : List RedoRange). IsFirstPage l front) (all_behind place changes) its in
    let next : place + 0 ≡ place = omega arith in
    let there : slice_get (drop place changes) 0 ≡ Some first = get-drop place 0 changes ∙ ap (λ (k : ℕ). slice_get changes k) next ∙ is in
    let behind : AreAscending (drop place changes) = ascending_behind (take place changes) (drop place changes) (subst AreAscending (take_and_drop place changes) ascending) in
    record {
      before = take place changes;
      behind = first_page.rest;
      whole = take_and_drop place changes ∙ ap (λ (l : List RedoRange). take place changes ++ l) first_page.whole;
      of_page = subst (λ (s : ℕ). All (IsOf s page) front) of.0 (subst (λ (p : ℕ). All (IsOf first.segment p) front) of.1 (first_page.of_first first there));
      none_before = none;
      none_behind = subst (λ (s : ℕ). All (IsOfAnother s page) first_page.rest) of.0 (subst (λ (p : ℕ). All (IsOfAnother first.segment p) first_page.rest) of.1 (first_page.no_more first there behind));
    }
