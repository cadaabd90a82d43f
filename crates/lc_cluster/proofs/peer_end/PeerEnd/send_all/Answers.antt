use Rattle.std.proofs.Common.{rules, ◌≡◌, []}
use Rattle.lc_cluster.proofs.Copied.{goes_on, sends_all}
use Rattle.lc_cluster.proofs.peer_end.PeerEnd.send_all.Goals as goal

pub loop-words-preserved : goal.loop-words-preserved
loop-words-preserved g c = goes_on c.args.records.items c.pop_front.new.self.items c.loop-words.records.items c.loop-words.sent c.args.self.now c.loop-words.self c.send_record.new.self c.in-Some.words
    c.in-Some.ensures.items c.loop-words.invariant c.if-not-send_record.ensures.sent c.if-not-send_record.ensures.line

pub returns-clause-all : goal.returns-clause-all
returns-clause-all g c =
    let none : c.loop-words.records.items ≡ [] = search rules in
    sends_all c.args.records.items c.loop-words.records.items c.loop-words.sent c.args.self.now c.loop-words.self none c.loop-words.invariant
