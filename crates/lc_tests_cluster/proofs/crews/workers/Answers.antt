use Rattle.std.proofs.Common.{◌≡◌, ◌+◌, ◌<◌, ℕ, length, subst, arith}
use Rattle.lc_cluster.specs.Cluster.{IsSeatAt}
use Rattle.lc_node.proofs.EachPlace.{first_is, left_is}
use Rattle.lc_tests_cluster.proofs.crews.workers.Goals as goal

pub loop-number-init : goal.loop-number-init
loop-number-init g c = record {
  left = omega (arith, c.requires.count, c.args.seats.ok.0);
  seats = λ k seat got. (let same : k ≡ 0 + k = omega arith in subst (λ (n : ℕ). IsSeatAt c.args.cluster.now n seat) same (c.requires.seats k seat got));
}

pub add_workers-requires-clause-own : goal.add_workers-requires-clause-own
add_workers-requires-clause-own g c =
    let inv = c.loop-number.invariant in
    let seat = c.remove-seat.result in
    let some : 0 < length c.loop-number.seats.items = omega (arith, inv.left, c.loop-number-test.true, c.nodes-number-end.ensures, c.loop-number.seats.ok.0) in
    let here : c.loop-number.number + 0 ≡ c.loop-number.number = omega arith in
    let at = inv.seats 0 seat (first_is c.loop-number.seats.items seat some c.remove-seat.ensures.value) in
    subst (λ (n : ℕ). IsSeatAt c.args.cluster.now n seat) here at

pub loop-number-preserved : goal.loop-number-preserved
loop-number-preserved g c =
    let inv = c.loop-number.invariant in
    record {
      left = omega (arith, c.remove-seat.ensures.len, inv.left);
      seats = λ k seat got.
          (let next : c.loop-number.number + (1 + k) ≡ c.loop-number.number + 1 + k = omega arith in
          let at = inv.seats (1 + k) seat (left_is c.loop-number.seats.items c.remove-seat.new.self.items k seat c.remove-seat.ensures.items got) in
          subst (λ (n : ℕ). IsSeatAt c.args.cluster.now n seat) next at);
    }
