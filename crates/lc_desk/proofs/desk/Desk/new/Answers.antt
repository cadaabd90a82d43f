use Rattle.std.proofs.Common.{sym, subst}
use Rattle.lc_desk.specs.Seats.{AllRun}
use Rattle.lc_desk.proofs.Seating.{nobody_runs}
use Rattle.lc_desk.proofs.desk.Desk.new.Goals as goal

pub invariant_of-result-clause-runs : goal.invariant_of-result-clause-runs
invariant_of-result-clause-runs c = subst (λ l. AllRun c.args.here l) (sym c.loop.invariant) (nobody_runs c.args.here c.loop.counter)
