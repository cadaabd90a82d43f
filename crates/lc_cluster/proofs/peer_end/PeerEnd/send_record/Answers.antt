use Rattle.std.proofs.Common.{rules, ◌≡◌, ◌+◌, ◌++◌, ◌∷◌, [], arith}
use Rattle.lc_line.specs.Ends.{sent_on}
use Rattle.lc_cluster.specs.Messages.{record_message}
use Rattle.lc_cluster.proofs.NextSent.{count_grows, words_grow}
use Rattle.lc_cluster.proofs.peer_end.PeerEnd.send_record.Goals as goal

pub invariant_of-self : goal.invariant_of-self
invariant_of-self g c = let old = c.args.self.now in
    let sent : sent_on c.send.new.self ≡ sent_on old.end ++ record_message (old.count + 1) c.args.words ∷ [] = search rules in record {
      counted = (let grows = count_grows (sent_on old.end) (sent_on c.send.new.self) (old.count + 1) c.args.words sent in let is = old.counted in omega arith);
      placed = (let grow = words_grow (sent_on old.end) (sent_on c.send.new.self) (old.count + 1) c.args.words sent in let is = old.placed in let long = c.len.ensures in let whole = c.args.words.ok.0 in omega arith);
      filled = (let few = old.filled in let long = c.len.ensures in let whole = c.args.words.ok.0 in let some = c.requires.some in omega arith);
    }
