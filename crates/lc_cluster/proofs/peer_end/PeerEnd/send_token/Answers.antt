use Rattle.std.proofs.Common.{◌≡◌, length, sym, ap, ◌∙◌}
use Rattle.lc_line.specs.Ends.{sent_on}
use Rattle.lc_cluster.specs.Messages.{records_in, words_of}
use Rattle.lc_cluster.proofs.TokenSent.{same_records, same_records_after}
use Rattle.lc_cluster.proofs.peer_end.PeerEnd.send_token.Goals as goal

pub invariant_of-self : goal.invariant_of-self
invariant_of-self g c = let old = c.args.self.now in
    let same : records_in (sent_on c.send.new.self) ≡ records_in (sent_on old.end) = same_records_after (sent_on old.end) (sent_on c.send.new.self) c.args.token c.send.result c.send.ensures.sent c.send.ensures.none in record {
      counted = old.counted ∙ sym (ap (λ l. length l) same);
      placed = old.placed ∙ sym (ap words_of same);
      filled = old.filled;
    }

pub returns-in-Ok-clause-records : goal.returns-in-Ok-clause-records
returns-in-Ok-clause-records g c = same_records (sent_on c.args.self.now.end) (sent_on c.send.new.self) c.args.token c.in-Ok.ensures.sent
