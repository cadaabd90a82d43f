use Rattle.std.proofs.Common.{◌≡◌, [], length, take}
use Rattle.lc_record.specs.Layout.{capped, layout_of}
use Rattle.lc_record.specs.Record.{spans_of}
use Rattle.lc_record.proofs.encoding.layout_of.Given as goal

abbrev pub invariant-loop-lock : goal.invariant-loop-lock
invariant-loop-lock l = l.layout ≡ capped (layout_of l._lock-index [])

abbrev pub invariant-loop-range : goal.invariant-loop-range
invariant-loop-range l = l.layout ≡ capped (layout_of (length l.record.locks) (spans_of (take l.range-index l.record.ranges)))
