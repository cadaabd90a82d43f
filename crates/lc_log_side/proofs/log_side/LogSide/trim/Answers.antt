use Rattle.std.proofs.Common.{refl, subst, arith}
use Rattle.lc_stage.specs.Seats.{flush_view}
use Rattle.lc_log_side.proofs.Leaving.{left-trims}
use Rattle.lc_log_side.specs.LogSide.{log_view}
use Rattle.lc_log_side.specs.LogView.{LogView}
use Rattle.lc_log_side.specs.Trimming.{TrimsLog}
use Rattle.lc_log_side.proofs.log_side.LogSide.trim.Goals as goal

pub invariant_of-self : goal.invariant_of-self
invariant_of-self g c = let inv = c.self.invariant in record {
  one_table = inv.one_table;
  idle_probe = inv.idle_probe;
  group_room = inv.group_room;
  stable_room = inv.stable_room;
  at_round = inv.at_round;
  few_rounds = inv.few_rounds;
  clear = inv.clear;
  uncleared = inv.uncleared;
  records = inv.records;
  published = inv.published;
  holds = inv.holds;
  left = left-trims (flush_view c.self.inside.flusher).past c.self.inside.known c.self.inside.ended.gone c.trim.new.self.gone c.self.inside.ended.words c.trim.new.self.words c.args.applied.now c.args.dropped.now c.trim.new.dropped c.trim.result inv.left
      c.trim.ensures.trimmed c.trim.ensures.place;
  small = (let old = inv.small in let same = c.trim.ensures.place in omega (arith, old, same));
  counted = inv.counted;
  past_records = inv.past_records;
  clean = inv.clean;
}

pub returns-clause-trimmed : goal.returns-clause-trimmed
returns-clause-trimmed g c =
    subst (λ (x : LogView g.row.D.Denot). TrimsLog c.args.applied.now c.args.dropped.now x c.trim.result (log_view g.D.Area (record c.self.inside { ended = c.trim.new.self })) c.trim.new.dropped) c.self.view_is
    ((refl, c.trim.ensures.place, c.trim.ensures.room), c.trim.ensures.trimmed)
