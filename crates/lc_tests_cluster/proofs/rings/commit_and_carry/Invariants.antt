use Rattle.std.proofs.Common.{◌≡◌, ◌≤◌}
use Rattle.lc_stage.specs.Seats.{commit_view, IsSeatOf, IsIdle}
use Rattle.lc_tests_cluster.proofs.rings.commit_and_carry.Given as goal

abbrev pub invariant-loop-turn : goal.invariant-loop-turn
invariant-loop-turn g l = IsSeatOf l.node.stage l.seat × IsIdle (commit_view l.seat) × (1 ≤ l.mark) × (l.mark ≤ 151)
