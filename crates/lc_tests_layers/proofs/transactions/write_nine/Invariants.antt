use Rattle.lc_tx.specs.Tx.{RunsOn}
use Rattle.lc_tx.specs.OneSegment.{the_images}
use Rattle.lc_tests_layers.proofs.transactions.write_nine.Given as goal

abbrev pub invariant-loop-i : goal.invariant-loop-i
invariant-loop-i l = RunsOn the_images l.segment l.tx
