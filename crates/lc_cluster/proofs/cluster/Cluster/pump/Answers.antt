use Rattle.std.proofs.Common.{◌≡◌, ◌≢◌, ℕ, ◌+◌, length, map, sym, ap, subst, ◌∙◌, arith}
use Rattle.lc_lock.specs.Loans.{key_of}
use Rattle.lc_cluster.specs.Reached.{Pumps}
use Rattle.lc_cluster.specs.Receiving.{origin_of}
use Rattle.lc_cluster.proofs.KeysKept.{peer_place}
use Rattle.lc_cluster.proofs.cluster.Cluster.pump.Goals as goal

pub pump-pumped-requires : goal.pump-pumped-requires
pump-pumped-requires g c =
    let key = key_of c.member-member.result.now.to in
    let count : length key.from.ends.items + 1 ≡ length c.args.self.now.members.items = (let peers = c.member-member.ensures.peers.1 in let ok = key.from.ends.ok.0 in omega arith) in
    let own = ap (λ k. k.from.ends.items) c.member-member.ensures.one_key in
    let fits = c.lock-ends.ensures.fits ∙ ap (λ l. map origin_of l) own in
    let place = peer_place origin_of key.from.ends.items c.lock-ends.result.0.ends.items fits (length c.args.self.now.members.items) count c.args.to c.args.from c.requires.apart c.requires.within.0 c.requires.within.1 in
    let is = c.place_of.ensures in
    record { peer = omega arith }

pub returns-clause-pumps : goal.returns-clause-pumps
returns-clause-pumps g c = record {
  member = c.member-member.result.now;
  at = c.member-member.ensures.member;
  old = c.lock-ends.result.0.ends.items;
  wired = c.lock-ends.ensures.fits;
  new = c.pump-pumped.new.self.ends.items;
  lines = c.pump-pumped.ensures.lines;
  pumps = subst (λ (place : ℕ). Pumps c.member-member.result.now.node c.lock-ends.result.0.ends.items place c.pump-pumped.result c.pump-pumped.new.self.ends.items) c.place_of.ensures.place c.pump-pumped.ensures.pumps;
  others = λ other apart. c.pump-pumped.ensures.others other (subst (λ (place : ℕ). other ≢ place) (sym c.place_of.ensures.place) apart);
}
