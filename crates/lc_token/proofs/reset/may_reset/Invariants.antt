use Rattle.std.proofs.Common.{length, drop, ◌-◌}
use Rattle.lc_token.specs.KnownClean.{known}
use Rattle.lc_token.proofs.ResetLemmas.{IsOnward}
use Rattle.lc_token.proofs.reset.may_reset.Given as goal

abbrev pub invariant-loop-record : goal.invariant-loop-record
invariant-loop-record l = IsOnward (known l.known) l.words (drop l.place l.words) l.least

abbrev pub decreases-loop-record : goal.decreases-loop-record
decreases-loop-record l = length l.words - l.place
