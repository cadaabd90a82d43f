use Rattle.std.proofs.Common.{◌≡◌, ◌-◌}
use Rattle.lc_record.specs.Reading.{ranges_at}
use Rattle.lc_record.proofs.LoopLemmas.{with_front}
use Rattle.lc_record.proofs.decoding.read_ranges.Given as goal

abbrev pub invariant-loop : goal.invariant-loop
invariant-loop l = with_front l.ranges.items (ranges_at l.head.version (l.head.ranges - l.counter) l.rest) ≡ ranges_at l.head.version l.head.ranges l.words
