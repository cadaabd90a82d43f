use Rattle.std.proofs.Common.{rules}
use Rattle.lc_line.proofs.Keeps.{merges, totals}
use Rattle.lc_line.proofs.closing.close_line.Goals as goal

pub absorb-requires-clause-rule : goal.absorb-requires-clause-rule
absorb-requires-clause-rule g c = merges _ _ _ _ c.args.to.sends c.args.from.takes

pub learn_as-requires-clause-rule : goal.learn_as-requires-clause-rule
learn_as-requires-clause-rule g c = totals _ _ (search rules) (search rules)
