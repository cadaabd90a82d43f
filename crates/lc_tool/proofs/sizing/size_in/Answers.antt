use Rattle.std.proofs.Common.{sym, subst}
use Rattle.lc_words.specs.declared.size.Size.{Size}
use Rattle.lc_tool.specs.Found.{IsTaken}
use Rattle.lc_tool.proofs.sizing.size_in.Goals as goal

pub returns-in-Some-clause-taken : goal.returns-in-Some-clause-taken
returns-in-Some-clause-taken g c = subst (λ (s : Size). IsTaken s c.in-Some.geometry) (sym c.in-AsFound.is) (c.in-Ok.found, c.in-Some.ensures.value)
