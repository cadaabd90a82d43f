use Rattle.std.proofs.Common.{arith}
use Rattle.lc_journal.proofs.Spans.{held, leading_le}
use Rattle.lc_journal.proofs.records.Records.dropped_count.Goals as goal

pub overflow_add-result : goal.overflow_add-result
overflow_add-result c =
    let h = held _ _ _ _ _ _ c.self.invariant c.self.view_is in
    omega (arith, h.few, h.front_is, h.gone_closed, leading_le h.whole)
