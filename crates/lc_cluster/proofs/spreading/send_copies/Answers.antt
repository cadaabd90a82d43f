use Rattle.std.proofs.Common.{rules, ◌≡◌, ◌+◌, ◌<◌, ℕ, [], ◌∷◌, length, length-append, get_or, set, sym, ap, subst, ◌∙◌, arith}
use Rattle.std.proofs.lemmas.List.Sums.{sum_by-set}
use Rattle.lc_cluster.specs.Spread.{sent_to, line_of, count_of}
use Rattle.lc_cluster.specs.Messages.{tokens_among}
use Rattle.lc_node.proofs.Backwards.{Backwards, step, finish}
use Rattle.lc_cluster.proofs.Copied.{IsSentFirst, count_after}
use Rattle.lc_cluster.proofs.SentToAll.{same_map, prefixes_after, few_sent, all_sent}
use Rattle.lc_cluster.proofs.spreading.send_copies.Goals as goal

pub send_all-sent-requires : goal.send_all-sent-requires
send_all-sent-requires g c = let peer = c.index_mut-peer.result.now in
    let e : c.len.result ≡ length c.pop.new.self.items = (let a = c.len.ensures in let b = c.pop.new.self.ok.0 in omega arith) in
    let at = step IsSentFirst _ _ _ _ c.pop.new.self.items c.in-Some.lacks peer c.loop-lacks.invariant.sends c.in-Some.ensures.items (c.index_mut-peer.ensures.value ∙ ap (λ (n : ℕ). get_or c.loop-lacks.peers.items n peer) e) in
    record { fit = c.requires.fit.each _ _ _ at.0 at.1 }

pub loop-lacks-preserved : goal.loop-lacks-preserved
loop-lacks-preserved g c = let peer = c.index_mut-peer.result.now in let new = c.send_all-sent.new.self in let now = c.loop-lacks.peers.items in let n = c.len.result in let inv = c.loop-lacks.invariant in
    let e : n ≡ length c.pop.new.self.items = (let a = c.len.ensures in let b = c.pop.new.self.ok.0 in omega arith) in
    let at = step IsSentFirst _ _ _ _ c.pop.new.self.items c.in-Some.lacks peer inv.sends c.in-Some.ensures.items (c.index_mut-peer.ensures.value ∙ ap (λ (k : ℕ). get_or now k peer) e) in
    let sent = c.send_all-sent.ensures.sent in
    let whole : length c.loop-lacks.copies.items ≡ length c.pop.new.self.items + 1 = ap (λ l. length l) c.in-Some.ensures.items ∙ length-append c.pop.new.self.items (c.in-Some.lacks ∷ []) in
    let within : n < length now = (let a = inv.sends.long in let b = inv.sends.same in let f = inv.sends.few in omega arith) in record {
      sends = subst (λ (k : ℕ). Backwards IsSentFirst c.args.peers.now.items (set now k new) c.args.copies.items c.pop.new.self.items) (sym e) (at.2 new (c.send_all-sent.result, sent, c.send_all-sent.ensures.all));
      sent = (let sum = sum_by-set count_of now n new peer within in let here : count_of peer ≡ count_of (get_or now n peer) = ap count_of c.index_mut-peer.ensures.value in
          let grows = count_after c.in-Some.lacks.items c.send_all-sent.result peer new sent in let before = inv.sent in omega arith);
      tokens = same_map (λ p. tokens_among (sent_to p)) now n peer new c.index_mut-peer.ensures.value within sent.4.tokens ∙ inv.tokens;
      lines = same_map line_of now n peer new c.index_mut-peer.ensures.value within sent.4.line ∙ inv.lines;
      few = (let most = c.send_all-sent.ensures.few in let before = inv.few in omega arith);
    }

pub returns-clause-prefix : goal.returns-clause-prefix
returns-clause-prefix g c = λ published next before.
    let none : c.loop-lacks.copies.items ≡ [] = search rules in
    prefixes_after published c.args.peers.now.items c.loop-lacks.peers.items c.args.copies.items (finish IsSentFirst c.args.peers.now.items c.loop-lacks.peers.items c.args.copies.items c.loop-lacks.copies.items c.loop-lacks.invariant.sends none) next before

pub returns-clause-each : goal.returns-clause-each
returns-clause-each g c =
    let none : c.loop-lacks.copies.items ≡ [] = search rules in
    few_sent c.args.peers.now.items c.loop-lacks.peers.items c.args.copies.items (finish IsSentFirst c.args.peers.now.items c.loop-lacks.peers.items c.args.copies.items c.loop-lacks.copies.items c.loop-lacks.invariant.sends none) c.requires.fit

pub returns-clause-all : goal.returns-clause-all
returns-clause-all g c =
    let none : c.loop-lacks.copies.items ≡ [] = search rules in
    all_sent c.args.peers.now.items c.loop-lacks.peers.items c.args.copies.items (finish IsSentFirst c.args.peers.now.items c.loop-lacks.peers.items c.args.copies.items c.loop-lacks.copies.items c.loop-lacks.invariant.sends none)
