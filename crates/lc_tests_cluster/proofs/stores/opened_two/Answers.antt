use Rattle.std.proofs.Common.{rules, ◌≡◌, ◌<◌, length, arith}
use Rattle.lc_node.proofs.EachPlace.{first_is, left_is}
use Rattle.lc_tests_cluster.proofs.stores.opened_two.Goals as goal

pub returns-clause-first : goal.returns-clause-first
returns-clause-first g c =
    let seats = c.in_ok-cluster.seats in
    let two : length seats.items ≡ 2 = search rules in
    let some : 0 < length seats.items = omega (arith, two) in
    let seat = c.remove-first.result in
    c.in_ok-cluster.ensures.seats 0 seat (first_is seats.items seat some c.remove-first.ensures.value)

pub returns-clause-second : goal.returns-clause-second
returns-clause-second g c =
    let seats = c.in_ok-cluster.seats in
    let two : length seats.items ≡ 2 = search rules in
    let left = c.remove-first.new.self in
    let some : 0 < length left.items = omega (arith, two, c.remove-first.ensures.len, seats.ok.0, left.ok.0) in
    let seat = c.remove-second.result in
    let got = left_is seats.items left.items 0 seat c.remove-first.ensures.items (first_is left.items seat some c.remove-second.ensures.value) in
    c.in_ok-cluster.ensures.seats 1 seat got
