use Rattle.std.proofs.Common.{rules, ◌≡◌, ◌+◌, ◌-◌, ◌^◌, length, min, get_or, ap, arith}
use Rattle.std.proofs.lemmas.List.Sums.{sum_by_more}
use Rattle.lc_log_side.specs.Published.{published}
use Rattle.lc_cluster.specs.Spread.{count_of}
use Rattle.lc_cluster.proofs.spreading.missing.Goals as goal

pub loop-peer-preserved : goal.loop-peer-preserved
loop-peer-preserved g c = let peers = c.args.peers.now in let n = c.loop-peer.peer-index in let peer = c.peer-item.result in let all = published c.args.log.now in
    let here : c.saturating_sub.result ≡ length all - peer.count = search rules in
    let added : c.saturating_add-left.result ≡ min (2 ^ 64 - 1) (c.loop-peer.left + c.saturating_sub.result) = search rules in
    let more = sum_by_more (λ p. length all - count_of p) peers n peer c.loop-peer-test.true in
    let mine : length all - count_of peer ≡ length all - count_of (get_or peers n peer) = ap (λ p. length all - count_of p) c.peer-item.is in
    let counted = peer.counted in let before = c.loop-peer.invariant in omega arith
