use Rattle.std.proofs.Common.{◌≡◌, take}
use Rattle.lc_tx.proofs.ImagesLemmas.{Back, EachIs}
use Rattle.lc_tx.proofs.tx.Tx.restore.Given as goal

abbrev pub invariant-loop-segment : goal.invariant-loop-segment
invariant-loop-segment g l = record {
  items : l.segment-items ≡ l.self.locked.items;
  each : EachIs g.I.Images (Back l.self.undo) (take l.segment-index l.segment-items) l.initial.images l.images;
}
