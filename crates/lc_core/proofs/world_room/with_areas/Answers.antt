use Rattle.std.proofs.Common.{◌+◌, ◌<◌, length, ap, sym, ◌∙◌, arith}
use Rattle.std.specs.Prelude.{slice_get}
use Rattle.lc_record.proofs.ListLemmas.{slice_get-drop as at_drop}
use Rattle.lc_desk.specs.declared.pages.Pages.{Pages}
use Rattle.lc_core.proofs.Furnishing.{goes_over}
use Rattle.lc_core.proofs.world_room.with_areas.Goals as goal

pub loop-preserved : goal.loop-preserved
loop-preserved g c =
    let h = c.loop.invariant in
    let some : 0 < length c.loop.areas.items = omega (arith, h.left, c.loop-test.true, c.loop.auto.counter-end, c.len-end.ensures, c.loop.areas.ok.0) in
    let some_writes : 0 < length c.loop.writes.items = omega (arith, h.left_writes, c.loop-test.true, c.loop.auto.counter-end, c.len-end.ensures, c.requires.count, c.loop.writes.ok.0) in
    record {
      areas = goes_over (λ (p : Pages g.row.D.Denot g.D.Area). p.area) c.loop.segments.items c.push_reserved.new.self.items c.loop.areas.items c.remove-area.new.self.items c.args.areas.items _ c.remove-area.result
          c.push_reserved.ensures.items c.remove-area.ensures.items h.areas some c.remove-area.ensures.value c.new.ensures.area;
      writes = goes_over (λ (p : Pages g.row.D.Denot g.D.Area). p.writes) c.loop.segments.items c.push_reserved.new.self.items c.loop.writes.items c.remove-writes.new.self.items c.args.writes.items _ c.remove-writes.result
          c.push_reserved.ensures.items c.remove-writes.ensures.items h.writes some_writes c.remove-writes.ensures.value c.new.ensures.writes;
      done = omega (arith, c.push_reserved.ensures.len, h.done);
      left = omega (arith, c.remove-area.ensures.len, h.left);
      left_writes = omega (arith, c.remove-writes.ensures.len, h.left_writes);
      place = c.push_reserved.ensures.capacity ∙ h.place;
      room = c.remove-area.ensures.capacity ∙ h.room;
      long = λ k area states there got. h.long (1 + k) area states
          (sym (at_drop 1 k c.loop.areas.items) ∙ ap (λ l. slice_get l k) (sym c.remove-area.ensures.items) ∙ there)
          (sym (at_drop 1 k c.loop.writes.items) ∙ ap (λ l. slice_get l k) (sym c.remove-writes.ensures.items) ∙ got);
      named = λ k states got. h.named (1 + k) states
          (sym (at_drop 1 k c.loop.writes.items) ∙ ap (λ l. slice_get l k) (sym c.remove-writes.ensures.items) ∙ got);
    }
