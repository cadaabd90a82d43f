use Rattle.std.proofs.Common.{◌≡◌, take}
use Rattle.lc_rest.specs.Replay.{laid_on}
use Rattle.lc_rest.proofs.replay.lay_on.Given as goal

abbrev pub invariant-loop-range : goal.invariant-loop-range
invariant-loop-range l = l.bytes ≡ laid_on l.segment (take l.range-index l.whole.ranges) l.initial.bytes
