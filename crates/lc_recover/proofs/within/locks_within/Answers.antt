use Rattle.std.proofs.Common.{◌≤◌, sym, arith}
use Rattle.lc_recover.proofs.Walks.{none-within, all-taken}
use Rattle.lc_recover.proofs.within.locks_within.Goals as goal
use Rattle.lc_recover.proofs.within.locks_within.Goals.{in-Some+else-lock-segments, in_default}
use Rattle.lc_record.specs.declared.record.Lock.{Lock}
use Rattle.lc_record.proofs.ListLemmas.{All-take_more as all-more}

pub loop-index-preserved : goal.loop-index-preserved
loop-index-preserved c = elim c.match-lock.branch [
  | in-Some+else-lock-segments w ↦ all-more (λ (lock : Lock). lock.segment ≤ c.args.segments) c.args.view.now.locks c.loop-index.index w.in-Some.lock (sym w.in-Some.ensures) c.loop-index.invariant (omega arith)
  | in_default w ↦ absurd (none-within c.args.view.now.locks c.loop-index.index (sym w.in_default.ensures) (omega arith))
]

pub returns : goal.returns
returns c = all-taken (λ (lock : Lock). lock.segment ≤ c.args.segments) c.loop-index.index c.args.view.now.locks (omega arith) c.loop-index.invariant
