use Rattle.std.proofs.Common.{take}
use Rattle.lc_tx.proofs.ImagesLemmas.{Left, EachIs}
use Rattle.lc_tx.proofs.locking.unlock.Given as goal

abbrev pub invariant-loop-segment : goal.invariant-loop-segment
invariant-loop-segment g l = EachIs g.I.Images (Left l.thread) (take l.segment-index l.segments) l.initial.images l.images
