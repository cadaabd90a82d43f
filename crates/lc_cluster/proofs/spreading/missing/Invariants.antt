use Rattle.std.proofs.Common.{◌≡◌, ◌-◌, ◌^◌, min, take}
use Rattle.lc_log_side.specs.Published.{published}
use Rattle.lc_cluster.specs.Spread.{missing_in}
use Rattle.lc_cluster.proofs.spreading.missing.Given as goal

abbrev pub invariant-loop-peer : goal.invariant-loop-peer
invariant-loop-peer g l = l.left ≡ min (2 ^ 64 - 1) (missing_in (published l.log) (take l.peer-index l.peers))
