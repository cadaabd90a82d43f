use Rattle.std.proofs.Common.{◌≡◌, ◌<◌, ◌∷◌, ◌++◌, List, [], Some, None, length, arith, subst, sym, ◌∙◌}
use Rattle.std.proofs.lemmas.List.{nil_from_length}
use Rattle.lc_page.specs.Writing.{GoesOn, IsNextOf, draft_of}
use Rattle.lc_page.specs.declared.writing.Writing.{Writing}
use Rattle.lc_segments.specs.Writes.{AreUnderWay, HaveRoom}
use Rattle.lc_segments.proofs.UnderWay.{calls_left, ends, fewer_left, goes_on, is_over, room_next, room_over}
use Rattle.lc_segments.proofs.page_writes.finish_all.Goals as goal

pub loop-write-smaller-in-Some-2 : goal.loop-write-smaller-in-Some-2
loop-write-smaller-in-Some-2 g c =
    let write = c.in-Some.write in
    let next = c.in-Some-2.next in
    let rest = c.pop_front.new.self.items in
    let next_is : IsNextOf write (Some next) = subst (IsNextOf write) c.in-Some-2.is c.in_ok-next.ensures.next in
    subst (λ (ws : List Writing). calls_left ws < calls_left c.loop-write.writes.items) (sym {A = List Writing} c.push_back_reserved.ensures.items)
    (subst (λ (ws : List Writing). calls_left (rest ++ next ∷ []) < calls_left ws) (sym {A = List Writing} c.in-Some.ensures.items) (fewer_left write next rest next_is.1))

pub loop-write-preserved-in-Some-2 : goal.loop-write-preserved-in-Some-2
loop-write-preserved-in-Some-2 g c =
    let a = g.D.Area in
    let old = c.loop-write.area in
    let new = c.step.new.area in
    let write = c.in-Some.write in
    let next = c.in-Some-2.next in
    let rest = c.pop_front.new.self.items in
    let so_far = c.loop-write.invariant in
    let device = c.in_ok-next.ensures.device in
    let next_is : IsNextOf write (Some next) = subst (IsNextOf write) c.in-Some-2.is c.in_ok-next.ensures.next in
    record {
      room = subst (HaveRoom a new) (sym {A = List Writing} c.push_back_reserved.ensures.items)
          (room_next a old new write next rest next_is.0 device.same_length (subst (HaveRoom a old) c.in-Some.ensures.items so_far.room));
      same_capacity = c.push_back_reserved.ensures.capacity ∙ c.pop_front.ensures.capacity ∙ so_far.same_capacity;
      no_failure = ◌∙◌ {b = a.failures old} device.counted so_far.no_failure;
      under_way = λ since token bytes begun.
          subst (λ (ws : List Writing). AreUnderWay a since new token bytes (length token.pages) ws) (sym {A = List Writing} c.push_back_reserved.ensures.items)
          (goes_on a old new write rest c.in_ok-next.ensures.others device.same_length since token bytes (length token.pages)
          (subst (λ (ws : List Writing). AreUnderWay a since old token bytes (length token.pages) ws) c.in-Some.ensures.items (so_far.under_way since token bytes begun))
          next next_is.0 (λ text page under. subst (GoesOn a new (draft_of write) text page) c.in-Some-2.is (c.in_ok-next.ensures.goes_on text page under)));
    }

pub loop-write-preserved : goal.loop-write-preserved
loop-write-preserved g c =
    let a = g.D.Area in
    let old = c.loop-write.area in
    let new = c.step.new.area in
    let write = c.in-Some.write in
    let rest = c.pop_front.new.self.items in
    let so_far = c.loop-write.invariant in
    let device = c.in_ok-next.ensures.device in
    let none : c.in_ok-next.field-0 ≡ None = c.in_default-2.is in
    record {
      room = room_over a old new write rest device.same_length (subst (HaveRoom a old) c.in-Some.ensures.items so_far.room);
      same_capacity = c.pop_front.ensures.capacity ∙ so_far.same_capacity;
      no_failure = ◌∙◌ {b = a.failures old} device.counted so_far.no_failure;
      under_way = λ since token bytes begun.
          is_over a old new write rest c.in_ok-next.ensures.others device.same_length since token bytes (length token.pages)
          (subst (λ (ws : List Writing). AreUnderWay a since old token bytes (length token.pages) ws) c.in-Some.ensures.items (so_far.under_way since token bytes begun))
          (λ text page under. subst (GoesOn a new (draft_of write) text page) none (c.in_ok-next.ensures.goes_on text page under));
    }

pub returns-clause-over : goal.returns-clause-over
returns-clause-over g c =
    let none : c.loop-write.writes.items ≡ [] = nil_from_length c.loop-write.writes.items (omega (arith, c.loop-write.writes.ok.0, c.in_default.ensures.cases.0)) in
    λ since token bytes begun. ends g.D.Area since c.loop-write.area token bytes c.loop-write.writes.items none (c.loop-write.invariant.under_way since token bytes begun)
