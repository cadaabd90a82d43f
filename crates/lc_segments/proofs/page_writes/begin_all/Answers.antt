use Rattle.std.proofs.Common.{◌≡◌, ℕ, ◌+◌, ◌∷◌, ◌++◌, List, [], length, ap, arith, subst, sym, ◌∙◌}
use Rattle.std.specs.VecDeque.{deque_capacity, deque_len}
use Rattle.lc_page.specs.declared.writing.Writing.{Writing}
use Rattle.lc_segments.specs.Pages.{FitsToken}
use Rattle.lc_segments.specs.Writes.{AreUnderWay}
use Rattle.lc_segments.proofs.UnderWay.{begins, passes}
use Rattle.lc_segments.proofs.page_writes.begin_all.Goals as goal
use Rattle.lc_segments.proofs.page_writes.begin_all.Goals.{then-dirty+in_ok-write, else-dirty}

pub begin_page-requires-clause-room : goal.begin_page-requires-clause-room
begin_page-requires-clause-room g c = (c.loop-page.invariant.under_way c.requires.fits.0 c.requires.fits.1).room

pub begin_page-requires-clause-settled : goal.begin_page-requires-clause-settled
begin_page-requires-clause-settled g c =
    let under_way = c.loop-page.invariant.under_way c.requires.fits.0 c.requires.fits.1 in
    (under_way.behind c.loop-page.page (omega arith) (let test = c.loop-page-test.true in let all = c.len-page-end.ensures ∙ ap length c.pages-pages.ensures in omega (arith, test, all))).settled_in

pub loop-page-preserved : goal.loop-page-preserved
loop-page-preserved g c =
    let a = g.D.Area in
    let token = c.args.token.now in
    let bytes = c.args.bytes.now in
    let page = c.loop-page.page in
    let items = c.loop-page.writes.items in
    let so_far = c.loop-page.invariant in
    elim c.if-dirty.branch [
      | then-dirty+in_ok-write w ↦
          let write = w.in_ok-write.write in
          let new = w.begin_page.new.area in
          let queue = w.push_back_reserved.new.self in
          let begun : (since : ℕ) → FitsToken a since c.args.area.now token bytes → AreUnderWay a since new token bytes (page + 1) (items ++ write ∷ []) = λ since fits.
          begins a c.loop-page.area new page token bytes w.begin_page.ensures.others w.in_ok-write.ensures.device.same_length since items write (so_far.under_way since fits) w.in_ok-write.ensures.page w.in_ok-write.ensures.under_way in
          let pushed : c.if-dirty.writes.items ≡ items ++ write ∷ [] = ap (λ q. q.items) w.writes-is ∙ w.push_back_reserved.ensures.items in
          record {
            under_way = λ since fits. subst (λ (ws : List Writing). AreUnderWay a since c.if-dirty.area token bytes (page + 1) ws) (sym pushed)
                (subst (λ area. AreUnderWay a since area token bytes (page + 1) (items ++ write ∷ [])) (sym w.area-is) (begun since fits));
            few = (let longer = ap deque_len w.writes-is in let one = w.push_back_reserved.ensures.len in let few = so_far.few in omega (arith, longer, one, few));
            same_capacity = ap deque_capacity w.writes-is ∙ w.push_back_reserved.ensures.capacity ∙ so_far.same_capacity;
            no_failure = ap a.failures w.area-is ∙ w.in_ok-write.ensures.device.counted ∙ so_far.no_failure;
          }
      | else-dirty w ↦
          let same : c.if-dirty.writes.items ≡ items = ap (λ q. q.items) w.writes-is in
          record {
            under_way = λ since fits. subst (λ (ws : List Writing). AreUnderWay a since c.if-dirty.area token bytes (page + 1) ws) (sym same)
                (subst (λ area. AreUnderWay a since area token bytes (page + 1) items) (sym w.area-is) (passes a since c.loop-page.area token bytes page items (rw c.pages-pages.ensures at (sym c.dirty.ensures ∙ w.if-dirty.false)) (so_far.under_way since fits)));
            few = (let longer = ap deque_len w.writes-is in let few = so_far.few in omega (arith, longer, few));
            same_capacity = ap deque_capacity w.writes-is ∙ so_far.same_capacity;
            no_failure = ap a.failures w.area-is ∙ so_far.no_failure;
          }
    ]

pub returns-clause-under_way : goal.returns-clause-under_way
returns-clause-under_way g c = λ since fits.
    let end : c.loop-page.page ≡ length c.args.token.now.pages = (let test = c.loop-page-test.false in let all = c.len-page-end.ensures ∙ ap length c.pages-pages.ensures in let last = c.loop-page.auto.page-end in omega (arith, test, all, last)) in
    subst (λ (n : ℕ). AreUnderWay g.D.Area since c.loop-page.area c.args.token.now c.args.bytes.now n c.loop-page.writes.items) end (c.loop-page.invariant.under_way since fits)
