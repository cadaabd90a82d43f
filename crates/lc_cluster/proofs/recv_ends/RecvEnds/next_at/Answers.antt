use Rattle.lc_cluster.specs.Receiving.{origin_of}
use Rattle.lc_cluster.proofs.SentToAll.{same_map}
use Rattle.lc_cluster.proofs.recv_ends.RecvEnds.next_at.Goals as goal

pub returns-clause-lines : goal.returns-clause-lines
returns-clause-lines g c = same_map origin_of c.args.self.now.ends.items c.args.peer c.index_mut-inbox.result.now c.next.new.self c.index_mut-inbox.ensures.value c.requires.peer c.next.ensures.origin
