-- Pages that are taken from the front of a list of changes.
use Rattle.std.proofs.Common.{ℕ, List, ◌++◌, All, Contains, sym, ◌∙◌, ap, subst}
use Rattle.std.proofs.lemmas.List.Elements.{All-append, All-weaker, All-contains}
use Rattle.std.proofs.lemmas.Option.{slice_get_within, get_or_from_slice_get}
use Rattle.lc_record.proofs.ListLemmas.{All-append_right as all_behind}
use Rattle.lc_recover.specs.StoreContents.{AreAscending}
use Rattle.lc_recover.specs.Page.{IsOf, IsOfAnother, AreApart, TakenPageByPage}
use Rattle.lc_recover.specs.declared.redo_range.RedoRange.{RedoRange}
use Rattle.lc_recover.proofs.MergedPage.{ascending_behind}
use Rattle.lc_recover.proofs.PagesOf.{rest_is}

pub taken_page_by_page : TakenPageByPage
taken_page_by_page changes taken rest front first whole ascending apart its is =
    let has : Contains rest first = (0, slice_get_within rest 0 first is, get_or_from_slice_get rest 0 first first is) in
    let others : All (IsOfAnother first.segment first.page) its.rest = its.no_more first is (ascending_behind taken rest (subst AreAscending whole ascending)) in
    let of_first : All (IsOf first.segment first.page) front = its.of_first first is in (
      record {
        before = taken;
        behind = its.rest;
        whole = whole ∙ ap (λ (cs : List RedoRange). taken ++ cs) its.whole;
        of_page = of_first;
        none_before = All-weaker (λ (c : RedoRange). All (IsOfAnother c.segment c.page) rest) (IsOfAnother first.segment first.page)
            (λ c all of. All-contains (IsOfAnother c.segment c.page) rest first all has (sym of.0, sym of.1)) taken apart;
        none_behind = others;
      },
      subst (AreApart (taken ++ front)) (sym (rest_is rest front its))
          (All-append (λ (c : RedoRange). All (IsOfAnother c.segment c.page) its.rest) taken front
          (All-weaker (λ (c : RedoRange). All (IsOfAnother c.segment c.page) rest) (λ (c : RedoRange). All (IsOfAnother c.segment c.page) its.rest)
          (λ c all. all_behind (IsOfAnother c.segment c.page) front its.rest (subst (All (IsOfAnother c.segment c.page)) its.whole all)) taken apart)
          (All-weaker (IsOf first.segment first.page) (λ (c : RedoRange). All (IsOfAnother c.segment c.page) its.rest)
          (λ c of. subst (λ (s : ℕ). All (IsOfAnother s c.page) its.rest) (sym of.0) (subst (λ (p : ℕ). All (IsOfAnother first.segment p) its.rest) (sym of.1) others)) front of_first)),
    )
