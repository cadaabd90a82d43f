use Rattle.std.proofs.Common.{arith}
use Rattle.lc_stage.proofs.Counting.{below_in, covered_found, lies_of, total_found}
use Rattle.lc_stage.specs.Staging.{covered}
use Rattle.lc_stage.proofs.laws.places_are_reserved.Goals as goal

pub returns : goal.returns
returns c = λ room place s rule low.
    let one = below_in place rule.offset low in
    let tiled = rule.tiled place in
    let seat = total_found (λ v. covered rule.round place v.mine) s.views (omega arith) in
    let run = covered_found rule.round place seat.1.mine seat.3 in
    let lies = lies_of rule.round place run.1 run.3 in
    (run.1, lies.0, (seat.0, seat.1, run.0, seat.2, run.2), (lies.1, lies.2))
