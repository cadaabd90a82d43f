use Rattle.std.proofs.Common.{◌≤◌}
use Rattle.lc_log.proofs.WalkBackLemmas.{FoundBack}
use Rattle.lc_log.proofs.walking_back.walk_back.Given as goal

abbrev pub invariant-loop-end : goal.invariant-loop-end
invariant-loop-end l = record {
  back : FoundBack l.words.items l.records.items l.end;
  within : l.end ≤ l.fn.end_place;
}

abbrev pub decreases-loop-end : goal.decreases-loop-end
decreases-loop-end l = l.end
