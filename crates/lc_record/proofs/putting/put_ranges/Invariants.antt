use Rattle.std.proofs.Common.{◌≡◌, ℕ, ◌+◌, ◌-◌, ◌<◌, List, length}
use Rattle.std.specs.Prelude.{slice_get}
use Rattle.std.specs.Option.{option_or}
use Rattle.lc_record.specs.Newest.{byte_of}
use Rattle.lc_record.specs.Reading.{ranges_at}
use Rattle.lc_record.specs.declared.record.RangeData.{RangeData}
use Rattle.lc_record.proofs.LoopLemmas.{with_front}
use Rattle.lc_record.proofs.putting.put_ranges.Given as goal

abbrev pub invariant-loop : goal.invariant-loop
invariant-loop l =
    (front : List RangeData)
    × (with_front front (ranges_at l.head.version (l.head.ranges - l.counter) l.rest) ≡ ranges_at l.head.version l.head.ranges l.words)
    × ((k : ℕ) → k < length l.initial.bytes → slice_get l.bytes k ≡ option_or (byte_of l.segment (l.offset + k) front) (slice_get l.initial.bytes k))
