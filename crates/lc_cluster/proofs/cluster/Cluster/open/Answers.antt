use Rattle.std.proofs.Common.{◌≡◌, length, arith}
use Rattle.lc_cluster.proofs.Joined.{all_segments, seat_of_node}
use Rattle.lc_cluster.proofs.cluster.Cluster.open.Goals as goal

pub returns-clause-seats : goal.returns-clause-seats
returns-clause-seats g c =
    let opened = c.in_ok-opened.opened in
    let members : length c.join.result.0.members.items ≡ length opened.items = omega (arith, c.join.ensures.members, opened.ok.0) in
    let seats : length c.join.result.1.items ≡ length opened.items = omega (arith, c.join.ensures.seats, opened.ok.0) in
    seat_of_node c.args.recovered opened.items c.in_ok-opened.ensures.each c.join.result.0 c.join.result.1.items members seats c.join.ensures.each

pub returns-clause-segments : goal.returns-clause-segments
returns-clause-segments g c =
    let opened = c.in_ok-opened.opened in
    let members : length c.join.result.0.members.items ≡ length opened.items = omega (arith, c.join.ensures.members, opened.ok.0) in
    let seats : length c.join.result.1.items ≡ length opened.items = omega (arith, c.join.ensures.seats, opened.ok.0) in
    all_segments c.args.recovered opened.items c.in_ok-opened.ensures.each c.join.result.0 c.join.result.1.items members seats c.join.ensures.each

pub returns-clause-comes_up : goal.returns-clause-comes_up
returns-clause-comes_up g c =
    let its = c.in_ok-opened.ensures.comes_up in (
      its.0,
      its.1,
      λ place member seat got got_seat.
          its.2.each place (record { node = member.node; seat = seat }) (c.join.ensures.each place member seat got got_seat),
    )
