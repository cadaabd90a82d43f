use Rattle.std.proofs.Common.{◌≡◌, ℕ, [], Some, length}
use Rattle.std.specs.Global.{Vec}
use Rattle.std.specs.Prelude.{slice_get}
use Rattle.lc_stage.specs.declared.seats.CommitSeat.{CommitSeat}
use Rattle.lc_tests_cluster.proofs.stores.no_seats.Given as goal

abbrev pub invariant-loop : goal.invariant-loop
invariant-loop l = record {
  count : length l.seats.items ≡ l.counter;
  none : (k : ℕ) (mine : Vec CommitSeat) → slice_get l.seats.items k ≡ Some mine → mine.items ≡ [];
}
