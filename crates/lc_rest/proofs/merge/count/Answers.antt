use Rattle.std.proofs.Common.{subst, length, ◌<◌, ◌∙◌, List}
use Rattle.std.proofs.Common.{length-set}
use Rattle.lc_record.specs.declared.record.Lock.{Lock as TheLock}
use Rattle.lc_rest.proofs.Merges.{counted-more}
use Rattle.lc_rest.proofs.merge.count.Goals as goal

pub loop-lock-preserved : goal.loop-lock-preserved
loop-lock-preserved c = (
  rw c.as_slice-lock-items.ensures (counted-more c.args.whole.now.locks c.loop-lock.numbers c.args.numbers.now c.loop-lock.lock-index (record { segment = 0; seq = 0 }) (subst (λ (ls : List TheLock). c.loop-lock.lock-index < length ls) c.as_slice-lock-items.ensures c.loop-lock-test.true) c.loop-lock.invariant.0),
  length-set c.loop-lock.numbers _ _ ∙ c.loop-lock.invariant.1,
)
