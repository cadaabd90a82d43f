use Rattle.std.proofs.Common.{◌≡◌, ◌-◌}
use Rattle.lc_record.specs.LockWords.{locks_in}
use Rattle.lc_record.specs.Reading.{place, start, ranges_at, walked}
use Rattle.lc_record.proofs.LoopLemmas.{walked_on}
use Rattle.lc_record.proofs.parts.behind_ranges.Given as goal

abbrev pub invariant-loop : goal.invariant-loop
invariant-loop l =
    walked_on l.needed l.head.version (place l.walk.segment l.walk.end (locks_in l.walk.locks.words.now)) (ranges_at l.head.version (l.head.ranges - l.counter) l.rest)
    ≡ walked l.head.version (start (locks_in l.initial.locks.words.now)) (ranges_at l.head.version l.head.ranges l.words)
