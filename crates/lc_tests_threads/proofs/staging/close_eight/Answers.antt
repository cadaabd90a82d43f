use Rattle.lc_stage.proofs.SampleRecords.{eight_filled}
use Rattle.lc_tests_threads.proofs.staging.close_eight.Goals as goal

pub close-requires-clause-whole : goal.close-requires-clause-whole
close-requires-clause-whole c = eight_filled c.args.seq c.requires.fresh.0 c.requires.fresh.1 _ _ _ _ _ _ _ _ c.requires.seq.0 c.requires.seq.1 c.requires.fresh.2 c.fill.ensures.filled c.fill-2.ensures.filled c.fill-3.ensures.filled c.fill-4.ensures.filled c.fill-5.ensures.filled c.fill-6.ensures.filled c.fill-7.ensures.filled
