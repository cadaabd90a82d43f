use Rattle.std.proofs.Common.{◌≡◌, ◌-◌, ◌==◌, List, filter}
use Rattle.lc_record.specs.Reading.{ranges_at}
use Rattle.lc_record.specs.declared.record.RangeData.{RangeData}
use Rattle.lc_record.proofs.LoopLemmas.{with_front}
use Rattle.lc_record.proofs.decoding.read_ranges_of.Given as goal

abbrev pub invariant-loop : goal.invariant-loop
invariant-loop l =
    (front : List RangeData)
    × (with_front front (ranges_at l.head.version (l.head.ranges - l.counter) l.rest) ≡ ranges_at l.head.version l.head.ranges l.words)
    × (l.copies.items ≡ filter (λ range. range.segment == l.segment) front)
