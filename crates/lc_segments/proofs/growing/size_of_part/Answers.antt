use Rattle.std.proofs.Common.{◌≡◌, List, drop, ap, arith}
use Rattle.std.proofs.lemmas.List.{drop_all}
use Rattle.lc_record.specs.declared.record.RangeData.{RangeData}
use Rattle.lc_segments.specs.Growing.{ranges_size}
use Rattle.lc_segments.proofs.growing.size_of_part.Goals as goal

pub returns : goal.returns
returns c = let items : List RangeData = c.as_slice-range-items.result.now in let inv = c.loop-range.invariant in let within = inv.0 in let sum = inv.1 in
    let none : ranges_size (drop c.loop-range.range-index items) ≡ 0 = ap ranges_size (drop_all c.loop-range.range-index items c.loop-range-test.false) in
    let all : ranges_size items ≡ ranges_size c.args.part.now.ranges = ap ranges_size c.as_slice-range-items.ensures in omega arith
