use Rattle.std.proofs.Common.{◌≤◌, length, take, vec_capacity}
use Rattle.lc_cluster.specs.Copies.{CanBeSent, AreNext, AreAllNext}
use Rattle.lc_segments.specs.Each.{Each}
use Rattle.lc_log_side.specs.Published.{published}
use Rattle.lc_cluster.proofs.copying.copies_for.Given as goal

abbrev pub invariant-loop-peer : goal.invariant-loop-peer
invariant-loop-peer g l = record {
  room : length l.peers ≤ vec_capacity l.copies;
  fit : Each (λ peer lacks. CanBeSent peer lacks.items) (take l.peer-index l.peers) l.copies.items;
  most : Each (λ peer lacks. AreAllNext l.log.gone (published l.log) peer lacks.items) (take l.peer-index l.peers) l.copies.items;
  next : Each (λ peer lacks. AreNext (published l.log) peer lacks.items) (take l.peer-index l.peers) l.copies.items;
}
