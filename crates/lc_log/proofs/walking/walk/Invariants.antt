use Rattle.std.proofs.Common.{length, ◌-◌}
use Rattle.lc_log.proofs.WalkLemmas.{Found}
use Rattle.lc_log.proofs.walking.walk.Given as goal

abbrev pub invariant-loop-end_place : goal.invariant-loop-end_place
invariant-loop-end_place l = Found l.words.items l.records.items l.end_place

abbrev pub decreases-loop-end_place : goal.decreases-loop-end_place
decreases-loop-end_place l = length l.words.items - l.end_place
