use Rattle.std.proofs.Common.{◌≡◌, Some}
use Rattle.lc_record.specs.Reading.{ranges_at}
use Rattle.lc_record.specs.declared.record.Record.{Record}
use Rattle.lc_record.proofs.view.View.put_on.Goals as goal

pub returns-clause-put : goal.returns-clause-put
returns-clause-put c =
    let r : Record = c.args.self.now in
    let there : ranges_at c.head.result.version c.head.result.ranges c.ranges-2.result.now ≡ Some (r.ranges, c.ranges-2.ensures.0) = rw (c.head.ensures.version, c.head.ensures.ranges) c.ranges-2.ensures.1 in
    c.put_ranges.ensures.put r.ranges c.ranges-2.ensures.0 there
