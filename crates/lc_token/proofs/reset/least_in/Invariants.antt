use Rattle.std.proofs.Common.{take}
use Rattle.lc_token.specs.KnownClean.{known}
use Rattle.lc_token.specs.Reset.{IsAboveIn, IsLeastOf}
use Rattle.lc_token.proofs.reset.least_in.Given as goal

abbrev pub invariant-loop-index : goal.invariant-loop-index
invariant-loop-index l = IsLeastOf (IsAboveIn (take l.index l.view.locks) (known l.known)) l.least
