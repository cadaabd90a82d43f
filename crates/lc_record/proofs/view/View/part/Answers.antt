use Rattle.std.proofs.Common.{◌≡◌, ◌==◌, Some, filter, rules}
use Rattle.lc_record.specs.Reading.{ranges_at}
use Rattle.lc_record.specs.declared.record.Record.{Record}
use Rattle.lc_record.specs.declared.record.RangeData.{RangeData}
use Rattle.lc_record.proofs.view.View.part.Goals as goal

pub returns-clause-part : goal.returns-clause-part
returns-clause-part c =
    let r : Record = c.args.self.now in
    let there : ranges_at c.head.result.version c.head.result.ranges c.ranges-2.result.now ≡ Some (r.ranges, c.ranges-2.ensures.0) = rw (c.head.ensures.version, c.head.ensures.ranges) c.ranges-2.ensures.1 in
    let copies : c.in_ok-ranges.ranges.items ≡ filter (λ (its : RangeData). its.segment == c.args.segment) r.ranges = c.in_ok-ranges.ensures r.ranges c.ranges-2.ensures.0 there in
    search rules
