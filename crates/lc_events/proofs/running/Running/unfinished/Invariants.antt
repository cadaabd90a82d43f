use Rattle.std.proofs.Common.{◌≡◌, ◌-◌, ◌*◌, ◌^◌, ◌≤◌, min, take}
use Rattle.std.specs.List.{sum_by}
use Rattle.lc_events.specs.Unfinished.{commits_at, transactions_at}
use Rattle.lc_events.proofs.running.Running.unfinished.Given as goal

abbrev pub invariant-loop-node : goal.invariant-loop-node
invariant-loop-node g l = record {
  commits : l.commits ≡ min (2 ^ 64 - 1) (sum_by (commits_at _) (take l.node-index l.self.nodes.items));
  transactions : l.transactions ≡ sum_by (transactions_at _) (take l.node-index l.self.nodes.items);
  few : l.transactions ≤ 16 * l.node-index;
}
