use Rattle.std.proofs.Common.{take}
use Rattle.lc_tx.proofs.ImagesLemmas.{Taken, EachIs}
use Rattle.lc_tx.proofs.locking.lock.Given as goal

abbrev pub invariant-loop-segment : goal.invariant-loop-segment
invariant-loop-segment g l = EachIs g.I.Images (Taken l.mode l.thread) (take l.segment-index l.segments) l.initial.images l.images
