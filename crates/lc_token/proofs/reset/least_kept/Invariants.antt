use Rattle.std.proofs.Common.{length, drop, ◌≤◌, ◌-◌}
use Rattle.lc_token.specs.KnownClean.{known}
use Rattle.lc_token.specs.Reset.{AreRecords}
use Rattle.lc_token.proofs.ResetLemmas.{IsOnward}
use Rattle.lc_token.proofs.reset.least_kept.Given as goal

abbrev pub invariant-loop-place : goal.invariant-loop-place
invariant-loop-place l = record {
  within : l.place ≤ length l.words;
  records : AreRecords (drop l.place l.words);
  onward : IsOnward (known l.known) l.words (drop l.place l.words) l.least;
}

abbrev pub decreases-loop-place : goal.decreases-loop-place
decreases-loop-place l = length l.words - l.place
