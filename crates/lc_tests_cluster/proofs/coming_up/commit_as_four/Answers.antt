use Rattle.std.proofs.Common.{rules, All}
use Rattle.lc_log_side.specs.LeftBy.{IsIdleSeatOf}
use Rattle.lc_tests_cluster.proofs.OwnSeats.{own_of_two}
use Rattle.lc_tests_cluster.proofs.coming_up.commit_as_four.Goals as goal

pub returns : goal.returns
returns g c =
    let here = c.node-here.result.now in
    let there = c.node-there.result.now in
    let first = c.in_ok-first.first in
    let second = c.in_ok-second.second in
    let firsts : All (IsIdleSeatOf here.stage) first.items = search rules in
    let seconds : All (IsIdleSeatOf there.stage) second.items = search rules in
    own_of_two c.args.cluster.now c.in_ok-seats.seats.items first second here there c.in_ok-seats.ensures c.requires.two c.node-here.ensures.node c.node-there.ensures.node firsts seconds
