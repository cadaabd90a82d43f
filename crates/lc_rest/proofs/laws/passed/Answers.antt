use Rattle.lc_rest.proofs.Passes.{tested}
use Rattle.lc_rest.proofs.laws.passed.Goals as goal

pub returns : goal.returns
returns c = tested
