use Rattle.std.proofs.Common.{◌≡◌, ◌+◌, ℕ, Some, length, vec_len}
use Rattle.std.specs.Prelude.{slice_get}
use Rattle.lc_stage.specs.declared.seats.CommitSeat.{CommitSeat as Seat}
use Rattle.lc_cluster.specs.Cluster.{IsSeatAt}
use Rattle.lc_tests_cluster.proofs.crews.workers.Given as goal

abbrev pub invariant-loop-number : goal.invariant-loop-number
invariant-loop-number g l = record {
  left : vec_len l.seats + l.number ≡ length l.cluster.members.items;
  seats : (k : ℕ) (seat : Seat) → slice_get l.seats.items k ≡ Some seat → IsSeatAt l.cluster (l.number + k) seat;
}
