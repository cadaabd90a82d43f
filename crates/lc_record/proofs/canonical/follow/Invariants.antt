use Rattle.std.proofs.Common.{◌≡◌, drop}
use Rattle.lc_record.specs.Reading.{follow, place, start}
use Rattle.lc_record.proofs.canonical.follow.Given as goal

abbrev pub invariant-loop-range : goal.invariant-loop-range
invariant-loop-range l = follow (place l.segment l.end l.rest) (drop l.range-index l.ranges) ≡ follow (start l.locks) l.ranges
