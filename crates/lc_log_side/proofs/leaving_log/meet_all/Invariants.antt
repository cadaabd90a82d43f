use Rattle.std.proofs.Common.{◌≡◌, All, drop, take}
use Rattle.lc_stage.specs.Seats.{commit_view, flush_view, IsFlusherOf}
use Rattle.lc_stage.specs.Staging.{Agree}
use Rattle.lc_log_side.proofs.leaving_log.meet_all.Given as goal

abbrev pub invariant-loop : goal.invariant-loop
invariant-loop l = record {
  own : IsFlusherOf l.stage l.flusher;
  same : flush_view l.flusher ≡ flush_view l.fn.flusher;
  left : l.seats.items ≡ drop l.counter l.fn.seats.items;
  agree : All (λ seat. Agree (flush_view l.fn.flusher) (commit_view seat)) (take l.counter l.fn.seats.items);
}
