use Rattle.std.proofs.Common.{ap, ◌∙◌}
use Rattle.lc_stage.specs.Seats.{commit_view, flush_view}
use Rattle.lc_stage.specs.declared.seats.CommitSeat.{CommitSeat}
use Rattle.lc_stage.specs.declared.seats.FlushSeat.{FlushSeat}
use Rattle.lc_node.proofs.log_room.LogRoom.fill.Goals as goal

pub returns-clause-log : goal.returns-clause-log
returns-clause-log g c =
    let made = c.new-log.ensures in
    let room = c.args.self in
    record {
      own_flusher = ap (λ (f : FlushSeat). f.seat.table_id) made.seats.0 ∙ room.own_flusher;
      own_probe = ap (λ (s : CommitSeat). s.seat.table_id) made.seats.1 ∙ room.own_probe;
      new_flusher = ap flush_view made.seats.0 ∙ room.new_flusher;
      new_probe = ap commit_view made.seats.1 ∙ room.new_probe;
      on_area = made.area;
      runs = made.serves;
      none_stable = made.empty.0;
      none_ended = made.empty.1;
      none_gone = made.empty.2;
      no_room = made.empty.3;
      first_round = made.round;
      none_known = made.known;
    }
