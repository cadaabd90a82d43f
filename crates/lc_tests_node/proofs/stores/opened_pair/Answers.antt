use Rattle.std.proofs.Common.{rules, ◌≡◌, ◌<◌, length, arith}
use Rattle.lc_node.proofs.EachPlace.{first_is, left_is}
use Rattle.lc_tests_node.proofs.stores.opened_pair.Goals as goal

pub returns-in-Ok-clause-first : goal.returns-in-Ok-clause-first
returns-in-Ok-clause-first c =
    let two : length c.in-Ok.seats.items ≡ 2 = search rules in
    let some : 0 < length c.in-Ok.seats.items = omega (arith, two) in
    let seat = c.remove-first.result in
    let told = c.in-Ok.ensures.seats 0 seat (first_is c.in-Ok.seats.items seat some c.remove-first.ensures.value) in
    told.0

pub returns-in-Ok-clause-second : goal.returns-in-Ok-clause-second
returns-in-Ok-clause-second c =
    let two : length c.in-Ok.seats.items ≡ 2 = search rules in
    let left = c.remove-first.new.self in
    let some : 0 < length left.items = omega (arith, two, c.remove-first.ensures.len, c.in-Ok.seats.ok.0, left.ok.0) in
    let seat = c.remove-second.result in
    let got = left_is c.in-Ok.seats.items left.items 0 seat c.remove-first.ensures.items (first_is left.items seat some c.remove-second.ensures.value) in
    let told = c.in-Ok.ensures.seats 1 seat got in
    told.0
