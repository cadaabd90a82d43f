use Rattle.std.proofs.Common.{◌≡◌, ◌<◌, ◌+◌, ◌++◌, ◌∷◌, [], ◌^◌, ℕ, List, length, true, ap, sym, subst, ◌∙◌, arith}
use Rattle.std.proofs.lemmas.Bool.{both_ways}
use Rattle.std.proofs.lemmas.Result.{err_from_is_err_and}
use Rattle.lc_page.specs.PageVector.{entry_at, is_dirty}
use Rattle.lc_page.specs.declared.page_entry.PageEntry.{PageEntry}
use Rattle.lc_token.specs.Token.{IsDirtyPage}
use Rattle.lc_token.specs.Dirty.{AreDirtyPages}
use Rattle.lc_token.proofs.DirtyLemmas.{DirtyBelow, dirty_more, clean_same, dirty_all}
use Rattle.lc_token.proofs.dirty.dirty_pages.Goals.{then-dirty+in_ok-push, else-dirty, else-loop-place-test, then-loop-place-test+in_default}
use Rattle.lc_token.proofs.dirty.dirty_pages.Goals as goal

pub returns-in_err-push-clause-memory : goal.returns-in_err-push-clause-memory
returns-in_err-push-clause-memory c =
    let pages = c.pages-pages.result.now in
    let place = c.loop-place.place in
    let small : place < 2 ^ 32 = omega (arith, c.in-Ok.ensures.0) in
    let among : place < length pages = omega (arith, c.loop-place-test.true, c.len-place-end.ensures) in
    let dirty : is_dirty (entry_at pages place) ≡ true = ap (λ (n : ℕ). is_dirty (entry_at pages n)) (sym c.in-Ok.ensures.1) ∙ (sym c.dirty.ensures ∙ c.if-dirty.true) in
    let p = err_from_is_err_and c.from_residual.result c.from_residual.ensures.1 in
    rw p.1 (place, subst (λ (ps : List PageEntry). IsDirtyPage ps place) c.pages-pages.ensures (among, small, dirty))

pub loop-place-preserved : goal.loop-place-preserved
loop-place-preserved c =
    let pages = c.pages-pages.result.now in
    let place = c.loop-place.place in
    let small : place < 2 ^ 32 = omega (arith, c.in-Ok.ensures.0) in
    let among : place < length pages = omega (arith, c.loop-place-test.true, c.len-place-end.ensures) in
    elim c.if-dirty.branch [
      | then-dirty+in_ok-push w ↦
          let dirty : is_dirty (entry_at pages place) ≡ true = ap (λ (n : ℕ). is_dirty (entry_at pages n)) (sym c.in-Ok.ensures.1) ∙ (sym c.dirty.ensures ∙ w.if-dirty.true) in
          let items : c.if-dirty.numbers.items ≡ c.loop-place.numbers.items ++ place ∷ [] =
          ap (λ v. v.items) w.numbers-is ∙ (w.in_ok-push.ensures.items ∙ ap (λ (n : ℕ). c.loop-place.numbers.items ++ n ∷ []) c.in-Ok.ensures.1) in
          subst (DirtyBelow pages (place + 1)) (sym items) (dirty_more pages place c.loop-place.numbers.items (among, small, dirty) c.loop-place.invariant)
      | else-dirty w ↦
          rw w.numbers-is (clean_same pages place c.loop-place.numbers.items
          (λ dirty. both_ways _ w.if-dirty.false (c.dirty.ensures ∙ (ap (λ (n : ℕ). is_dirty (entry_at pages n)) c.in-Ok.ensures.1 ∙ dirty.2)))
          c.loop-place.invariant)
    ]

pub returns-clause-pages : goal.returns-clause-pages
returns-clause-pages c =
    let pages = c.pages-pages.result.now in
    let place = c.loop-place.place in
    subst (λ (ps : List PageEntry). AreDirtyPages ps c.loop-place.numbers.items) c.pages-pages.ensures (dirty_all pages place c.loop-place.numbers.items
    (λ page dirty. elim c.loop-place-test.branch [
      | else-loop-place-test w ↦ omega (arith, dirty.0, w.loop-place-test.false, c.len-place-end.ensures)
      | then-loop-place-test+in_default w ↦ omega (arith, dirty.1, w.in_default.ensures)
    ])
    c.loop-place.invariant)
