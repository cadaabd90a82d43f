use Rattle.std.proofs.Common.{◌≡◌, ◌+◌, ◌*◌, ◌≤◌, length}
use Rattle.lc_cluster.specs.Spread.{SameLines, sent_in, tokens_in}
use Rattle.lc_node.proofs.Backwards.{Backwards}
use Rattle.lc_cluster.proofs.Copied.{IsSentFirst}
use Rattle.lc_cluster.proofs.spreading.send_copies.Given as goal

abbrev pub invariant-loop-lacks : goal.invariant-loop-lacks
invariant-loop-lacks g l = record {
  sends : Backwards IsSentFirst l.initial.peers.items l.peers.items l.initial.copies.items l.copies.items;
  sent : sent_in l.peers.items ≡ sent_in l.initial.peers.items + l.sent;
  tokens : tokens_in l.peers.items ≡ tokens_in l.initial.peers.items;
  lines : SameLines l.initial.peers.items l.peers.items;
  few : l.sent + 64 * length l.copies.items ≤ 64 * length l.initial.copies.items;
}

abbrev pub decreases-loop-lacks : goal.decreases-loop-lacks
decreases-loop-lacks g l = length l.copies.items
