use Rattle.std.proofs.Common.{◌≡◌, drop}
use Rattle.lc_tx.specs.Walk.{spent_in}
use Rattle.lc_tx.proofs.recording.first_spent.Given as goal

abbrev pub invariant-loop-run : goal.invariant-loop-run
invariant-loop-run g l = spent_in g.I.Images l.images (drop l.run-index l.runs) ≡ spent_in g.I.Images l.images l.runs
