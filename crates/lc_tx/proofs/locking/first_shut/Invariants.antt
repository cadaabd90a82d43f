use Rattle.std.proofs.Common.{take}
use Rattle.lc_tx.specs.Images.{IsSame}
use Rattle.lc_tx.specs.Locking.{IsLeastShut}
use Rattle.lc_tx.proofs.locking.first_shut.Given as goal

abbrev pub invariant-loop-segment : goal.invariant-loop-segment
invariant-loop-segment g l = record {
  same : IsSame g.I.Images l.initial.images l.images;
  least : IsLeastShut g.I.Images l.mode l.initial.images (take l.segment-index l.segments) l.first;
}
