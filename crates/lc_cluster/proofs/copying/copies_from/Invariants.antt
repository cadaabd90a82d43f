use Rattle.std.proofs.Common.{◌≡◌, ◌+◌, ◌≤◌, ℕ, length}
use Rattle.std.specs.List.{concat}
use Rattle.std.specs.VecDeque.{deque_capacity}
use Rattle.lc_cluster.specs.Copies.{texts, FitBehind, AreBehind}
use Rattle.lc_log_side.specs.Published.{published, IsStart}
use Rattle.lc_cluster.proofs.copying.copies_from.Given as goal

abbrev pub invariant-loop : goal.invariant-loop
invariant-loop g l = record {
  many : length l.copies.items ≡ l.counter;
  room : 64 ≤ deque_capacity l.copies;
  here : l.at ≡ l.place + length (concat (texts l.copies.items));
  fit : FitBehind l.place l.copies.items;
  behind : AreBehind (published l.log) l.place l.copies.items;
  next : (count : ℕ) → IsStart (published l.log) count l.place → IsStart (published l.log) (count + length l.copies.items) l.at;
}
