use Rattle.std.proofs.Common.{arith}
use Rattle.lc_journal.proofs.Spans.{held, count_so}
use Rattle.lc_journal.proofs.records.Records.count.Goals as goal

pub returns : goal.returns
returns c =
    let h = held _ _ _ _ _ _ c.self.invariant c.self.view_is in
    omega (arith, c.len.ensures, h.before_is, count_so _ _ _ _ _ _ h)
