use Rattle.lc_rest.specs.Replay.{AreMet}
use Rattle.lc_rest.proofs.replay.are_met.Given as goal

abbrev pub invariant-loop-page : goal.invariant-loop-page
invariant-loop-page l = AreMet l.area l.page l.number l.bytes
