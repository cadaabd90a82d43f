use Rattle.std.proofs.Common.{◌≡◌, ◌<◌, ◌≤◌, All, List, Some, length, subst, sym, ◌∙◌, arith}
use Rattle.std.specs.Prelude.{slice_get}
use Rattle.std.proofs.lemmas.List.{take_all}
use Rattle.lc_stage.specs.Seats.{commit_view, flush_view}
use Rattle.lc_stage.specs.Staging.{Agree}
use Rattle.lc_stage.specs.declared.seats.CommitSeat.{CommitSeat}
use Rattle.lc_stage.specs.declared.stage_view.StageView.{StageView}
use Rattle.lc_record.proofs.ListLemmas.{left_first as next_is, left_more, All-take_more as all_more}
use Rattle.lc_log_side.proofs.leaving_log.meet_all.Goals as goal

pub loop-preserved : goal.loop-preserved
loop-preserved c =
    let inv = c.loop.invariant in
    let all = c.args.seats.items in
    let some : c.loop.counter < length all = omega (arith, c.loop-test.true, c.len-end.ensures, c.args.seats.ok.0) in
    let next : slice_get all c.loop.counter ≡ Some c.remove.result = next_is all c.loop.seats.items c.loop.counter c.remove.result inv.left some c.remove.ensures.value in
    let same : flush_view c.meet-seat.new.flusher ≡ flush_view c.args.flusher.now = c.meet-seat.ensures.views.0 ∙ inv.same in
    record {
      own = c.meet-seat.ensures.same.0;
      same = same;
      left = left_more all c.loop.seats.items c.remove.new.self.items c.loop.counter inv.left c.remove.ensures.items;
      agree = all_more (λ seat. Agree (flush_view c.args.flusher.now) (commit_view seat)) all c.loop.counter c.remove.result next inv.agree
          (subst (λ (z : StageView × StageView). Agree z.0 z.1) (λ k. (same k, c.meet-seat.ensures.views.1 k)) c.meet-seat.ensures.agree);
    }

pub returns-clause-agree : goal.returns-clause-agree
returns-clause-agree c =
    let inv = c.loop.invariant in
    let all = c.args.seats.items in
    let reached : length all ≤ c.loop.counter = omega (arith, c.loop-test.false, c.len-end.ensures, c.args.seats.ok.0) in
    subst (λ (z : List CommitSeat × StageView). All (λ seat. Agree z.1 (commit_view seat)) z.0) (λ k. (take_all c.loop.counter all reached k, sym inv.same k)) inv.agree
