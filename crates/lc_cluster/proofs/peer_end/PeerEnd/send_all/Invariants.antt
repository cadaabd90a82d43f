use Rattle.std.proofs.Common.{length}
use Rattle.lc_cluster.proofs.Copied.{IsSending}
use Rattle.lc_cluster.proofs.peer_end.PeerEnd.send_all.Given as goal

abbrev pub invariant-loop-words : goal.invariant-loop-words
invariant-loop-words g l = IsSending l.fn.records.items l.records.items l.sent l.fn.self l.self

abbrev pub decreases-loop-words : goal.decreases-loop-words
decreases-loop-words g l = length l.records.items
