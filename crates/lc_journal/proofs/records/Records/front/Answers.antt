use Rattle.std.proofs.Common.{arith}
use Rattle.lc_journal.proofs.Spans.{held, front_so, leading_le}
use Rattle.lc_journal.proofs.records.Records.front.Goals as goal

pub overflow_add-result : goal.overflow_add-result
overflow_add-result c =
    let h = held _ _ _ _ _ _ c.self.invariant c.self.view_is in
    omega (arith, h.few, h.front_is, leading_le h.whole)

pub returns : goal.returns
returns c =
    let h = held _ _ _ _ _ _ c.self.invariant c.self.view_is in
    omega (arith, h.before_is, front_so _ _ _ _ _ _ h)
