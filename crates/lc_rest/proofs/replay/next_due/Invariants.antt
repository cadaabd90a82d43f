use Rattle.lc_rest.specs.Replay.{IsDue}
use Rattle.lc_rest.proofs.replay.next_due.Given as goal

abbrev pub invariant-loop-page : goal.invariant-loop-page
invariant-loop-page l = IsDue l.area l.page l.number l.due
