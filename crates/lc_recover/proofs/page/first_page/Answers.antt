use Rattle.std.proofs.Common.{◌≡◌, List, Some, All, take, get_or, subst, arith}
use Rattle.std.specs.Prelude.{slice_get}
use Rattle.std.proofs.lemmas.List.{take_all}
use Rattle.std.proofs.lemmas.List.Elements.{All-more}
use Rattle.std.proofs.lemmas.Option.{slice_get-get_or}
use Rattle.lc_recover.specs.Page.{IsOf, IsOfAnother}
use Rattle.lc_recover.specs.declared.redo_range.RedoRange.{RedoRange}
use Rattle.lc_recover.proofs.PageLemmas.{ended, only_page}
use Rattle.lc_recover.proofs.page.first_page.Goals as goal
use Rattle.lc_recover.proofs.page.first_page.Goals.{then-change-first-via-then-change-first, then-change-first-via-else-change-first+then-change-first-2}

no_change : RedoRange
no_change = record { segment = 0; page = 0; seq = 0; log = 0; place = 0; words = 0; offset = 0; len = 0 }

pub returns-then-change-first : goal.returns-then-change-first
unfolding no_change
returns-then-change-first c =
    let changes = c.args.changes.now in
    let count = c.loop-count.count in
    let first : RedoRange = get_or changes 0 no_change in
    let is : slice_get changes 0 ≡ Some first = slice_get-get_or changes 0 no_change (omega (arith, c.in-len1-up.len_at_least)) in
    let other : IsOfAnother first.segment first.page (get_or changes count no_change) = λ same.
    elim c.then-change-first.branch [
      | then-change-first-via-then-change-first w ↦ w.if-change-first.true same.0
      | then-change-first-via-else-change-first+then-change-first-2 w ↦ w.if-change-first-2.true same.1
    ] in
    ended changes count first no_change c.loop-count-test.true is c.loop-count.invariant other

pub loop-count-preserved : goal.loop-count-preserved
unfolding no_change
loop-count-preserved c =
    let changes = c.args.changes.now in
    let first : RedoRange = get_or changes 0 no_change in
    All-more (IsOf first.segment first.page) changes c.loop-count.count no_change c.loop-count-test.true c.loop-count.invariant (c.if-change-first.false, c.if-change-first-2.false)

pub returns : goal.returns
unfolding no_change
returns c =
    let changes = c.args.changes.now in
    let first : RedoRange = get_or changes 0 no_change in
    let is : slice_get changes 0 ≡ Some first = slice_get-get_or changes 0 no_change (omega (arith, c.in-len1-up.len_at_least)) in
    let whole : take c.loop-count.count changes ≡ changes = take_all c.loop-count.count changes c.loop-count-test.false in
    only_page changes first is (subst (λ (cs : List RedoRange). All (IsOf first.segment first.page) cs) whole c.loop-count.invariant)
