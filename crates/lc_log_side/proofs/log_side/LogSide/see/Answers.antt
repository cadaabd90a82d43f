use Rattle.lc_stage.specs.Seats.{flush_view}
use Rattle.lc_log_side.proofs.Knowing.{all-seen, sees-grows}
use Rattle.lc_log_side.proofs.Leaving.{left-sees}
use Rattle.lc_log_side.proofs.log_side.LogSide.see.Goals as goal

pub invariant_of-self : goal.invariant_of-self
invariant_of-self g c = let inv = c.self.invariant in record {
  one_table = inv.one_table;
  idle_probe = inv.idle_probe;
  group_room = inv.group_room;
  stable_room = inv.stable_room;
  at_round = inv.at_round;
  few_rounds = inv.few_rounds;
  clear = inv.clear;
  uncleared = inv.uncleared;
  records = inv.records;
  published = inv.published;
  holds = inv.holds;
  left = left-sees (flush_view c.self.inside.flusher).past c.self.inside.known c.see.new.self c.self.inside.ended.gone c.self.inside.ended.words inv.left (sees-grows c.self.inside.known _ c.args.token.now c.see.ensures);
  small = inv.small;
  counted = inv.counted;
  past_records = inv.past_records;
  clean = all-seen c.self.inside.known _ c.args.token.now _ c.see.ensures inv.clean;
}
