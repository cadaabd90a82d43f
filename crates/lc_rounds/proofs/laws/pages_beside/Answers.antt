use Rattle.lc_rounds.proofs.laws.pages_beside.Goals as goal
use Rattle.lc_rounds.proofs.Beside.{beside-merges}
use Rattle.lc_rounds.proofs.Calls.{beside-begins, beside-goes-on, later-merges}
use Rattle.lc_rounds.proofs.Resets.{reset-merge}

pub returns-clause-begins : goal.returns-clause-begins
returns-clause-begins g c = beside-begins g.D.Area

pub returns-clause-goes_on : goal.returns-clause-goes_on
returns-clause-goes_on g c = λ geometry begins areas content numbers plans stages k p stage old new found plan beside is stage_is old_is call.
    beside-goes-on g.D.Area g.met.D.Area.reads_bytes geometry begins areas content numbers plans stages k p stage old new found plan beside is stage_is old_is call

pub returns-clause-merges : goal.returns-clause-merges
returns-clause-merges g c = λ geometry begins areas content numbers plans stages found plan beside.
    beside-merges g.D.Area g.met.D.Area.reads_bytes geometry begins content numbers found plans plan stages areas beside

pub returns-clause-failed : goal.returns-clause-failed
returns-clause-failed g c = λ geometry begins areas content numbers plans stages k p stage old new ok found plan beside is stage_is old_is call.
    later-merges g.D.Area g.met.D.Area.reads_bytes geometry begins areas content numbers plans stages k p stage old new found plan beside is stage_is old_is ok call

pub returns-clause-resets : goal.returns-clause-resets
returns-clause-resets g c = λ geometry begins areas laters content numbers plans stages found plan beside all reset images are.
    reset-merge g.D.Area g.met.D.Area.reads_bytes geometry begins areas content numbers plans stages found plan beside all laters reset images are
