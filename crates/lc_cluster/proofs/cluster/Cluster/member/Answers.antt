use Rattle.std.proofs.Common.{◌≡◌, All, Some, ℕ, length, subst}
use Rattle.std.specs.Prelude.{slice_get}
use Rattle.lc_lock.specs.Loans.{key_of}
use Rattle.lc_cluster.specs.Keys.{wired_by}
use Rattle.lc_cluster.specs.Wiring.{HasPeers}
use Rattle.lc_cluster.specs.declared.member.Member.{Member}
use Rattle.lc_log_side.proofs.Backwards.{got_at}
use Rattle.lc_cluster.proofs.KeysKept.{at_mapped}
use Rattle.lc_cluster.proofs.cluster.Cluster.member.Goals as goal

pub returns-clause-peers : goal.returns-clause-peers
returns-clause-peers g c =
    let members = c.args.self.now.members in
    let here : slice_get members.items c.args.node ≡ Some c.index.result.now = got_at members.items c.args.node c.index.result.now c.index.ensures c.requires in
    at_mapped (λ (m : Member g.row.D.Denot). key_of m.to) (HasPeers (length members.items)) members.items c.args.node c.index.result.now
    (subst (λ (n : ℕ). All (HasPeers n) (wired_by members.items)) members.ok.0 c.args.self.now.wired.peers) here
