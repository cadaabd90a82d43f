use Rattle.lc_stage.specs.Seats.{commit_view, IsSeatOf, IsIdle}
use Rattle.lc_log_side.specs.Receipts.{Learns}
use Rattle.lc_node.proofs.node.Node.settle.Given as goal

abbrev pub invariant-loop : goal.invariant-loop
invariant-loop g l = record {
  own : IsSeatOf l.self.stage l.seat;
  idle : IsIdle (commit_view l.seat);
  learns : Learns (commit_view l.fn.seat) (commit_view l.seat);
}
