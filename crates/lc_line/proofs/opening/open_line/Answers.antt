use Rattle.std.proofs.Common.{rules}
use Rattle.lc_line.proofs.Keeps.{begins, forks}
use Rattle.lc_line.proofs.opening.open_line.Goals as goal

pub bounded_with-requires-clause-rule : goal.bounded_with-requires-clause-rule
bounded_with-requires-clause-rule g c = begins

pub another-other-requires-clause-rule : goal.another-other-requires-clause-rule
another-other-requires-clause-rule g c = forks _ _ (search rules) (search rules)
