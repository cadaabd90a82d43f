use Rattle.std.proofs.Common.{sym, arith}
use Rattle.lc_recover.proofs.Walks.{none-within}
use Rattle.lc_recover.proofs.Pushes.{number-found, number-next}
use Rattle.lc_recover.proofs.index.number.Goals as goal
use Rattle.lc_recover.proofs.index.number.Goals.{in-Some+else-lock-segment, in_default}

pub returns-then-lock-segment : goal.returns-then-lock-segment
returns-then-lock-segment c = number-found c.args.segment c.args.view.now.locks c.loop-index.index c.in-Some.lock (sym c.in-Some.ensures) c.if-lock-segment.true c.loop-index.invariant

pub loop-index-preserved : goal.loop-index-preserved
loop-index-preserved c = elim c.match-lock.branch [
  | in-Some+else-lock-segment w ↦ number-next c.args.segment c.args.view.now.locks c.loop-index.index w.in-Some.lock (sym w.in-Some.ensures) w.if-lock-segment.false c.loop-index.invariant
  | in_default w ↦ absurd (none-within c.args.view.now.locks c.loop-index.index (sym w.in_default.ensures) (omega arith))
]
