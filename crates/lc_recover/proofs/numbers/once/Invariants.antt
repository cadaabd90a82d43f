use Rattle.lc_recover.proofs.Counts.{AreApart}
use Rattle.lc_recover.proofs.numbers.once.Given as goal

abbrev pub invariant-loop-index : goal.invariant-loop-index
invariant-loop-index l = AreApart l.numbers l.index
