use Rattle.lc_cluster.specs.Messages.{records_in}
use Rattle.lc_cluster.specs.Spread.{sent_to, line_of}
use Rattle.lc_cluster.proofs.SentToAll.{same_map}
use Rattle.lc_cluster.proofs.send_ends.SendEnds.send_token.Goals as goal

pub returns-clause-records : goal.returns-clause-records
returns-clause-records g c = same_map (λ p. records_in (sent_to p)) c.args.self.now.ends.items c.args.peer c.index_mut-peer.result.now c.send_token.new.self c.index_mut-peer.ensures.value c.requires.peer c.send_token.ensures.records

pub returns-clause-lines : goal.returns-clause-lines
returns-clause-lines g c = same_map line_of c.args.self.now.ends.items c.args.peer c.index_mut-peer.result.now c.send_token.new.self c.index_mut-peer.ensures.value c.requires.peer c.send_token.ensures.line
