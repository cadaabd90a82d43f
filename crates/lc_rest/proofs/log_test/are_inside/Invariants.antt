use Rattle.std.proofs.Common.{All, take}
use Rattle.lc_rest.specs.Adopted.{IsInside}
use Rattle.lc_rest.proofs.log_test.are_inside.Given as goal

abbrev pub invariant-loop-range : goal.invariant-loop-range
invariant-loop-range l = All (IsInside l.geometry) (take l.range-index l.whole.ranges)
