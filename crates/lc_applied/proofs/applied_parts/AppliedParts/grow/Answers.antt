use Rattle.std.proofs.Common.{arith}
use Rattle.lc_record.proofs.ListLemmas.{OnOk_then}
use Rattle.lc_applied.proofs.PartsLemmas.{length-parts}
use Rattle.lc_applied.proofs.applied_parts.AppliedParts.grow.Goals as goal

pub returns-clause-made : goal.returns-clause-made
returns-clause-made c =
    let count = length-parts c.reserve.new.self.items c.reserve-2.new.self.items c.reserve-3.new.self.items in
    let entries = c.reserve.new.self.ok in
    OnOk_then c.reserve-3.result c.reserve-3.ensures.ok (λ room. record {
      part = omega (arith, count, entries, c.in_ok-reserve.ensures.ok);
      few_runs = omega (arith, c.in_ok-reserve-2.ensures.ok);
      few_bytes = omega (arith, room);
    })
