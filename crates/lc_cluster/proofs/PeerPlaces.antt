-- The places of a node's peers.
use Rattle.std.proofs.Common.{◌≡◌, ◌≢◌, ℕ, ◌+◌, ◌-◌, ◌<◌, cond, ap, arith}
use mathlib.Core.Logic.{dite}
use native.Mathlib.Decide.{dec_le}
use Rattle.std.proofs.lemmas.Bool.{lt-ltb, le-ltb}
use Rattle.lc_cluster.specs.Peers.{place_of}

pub place_below : (node peer : ℕ) → peer < node → place_of node peer ≡ peer
place_below node peer less = ap (λ b. cond b peer (peer - 1)) (lt-ltb peer node less)

pub place_above : (node peer : ℕ) → node < peer → place_of node peer ≡ peer - 1
place_above node peer less = ap (λ b. cond b peer (peer - 1)) (le-ltb peer node (omega arith))

-- they are as many as there are other nodes
pub place_within : (node peer nodes : ℕ) → node ≢ peer → node < nodes → peer < nodes → place_of node peer + 1 < nodes
place_within node peer nodes apart node_in peer_in = dite (dec_le node peer)
    (λ high. let at = place_above node peer (omega arith) in omega arith)
    (λ low. let at = place_below node peer (omega arith) in omega arith)
