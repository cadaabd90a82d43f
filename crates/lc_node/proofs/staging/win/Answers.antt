use Rattle.std.proofs.Common.{rules, ◌≡◌, ◌+◌, ◌<◌, ◌∷◌, length, arith}
use Rattle.lc_stage.specs.Staging.{saw}
use Rattle.lc_stage.specs.Seats.{commit_view, IsIdle}
use Rattle.lc_node.specs.Stages.{Sees}
use Rattle.lc_node.proofs.StageKeeps.{wins}
use Rattle.lc_node.proofs.staging.win.Goals as goal

pub returns-in-Ok-clause-won : goal.returns-in-Ok-clause-won
returns-in-Ok-clause-won c = wins (commit_view c.args.seat.now) (commit_view c.loop.seat) (commit_view c.reserve.new.seat) c.loop.at c.args.n c.loop.invariant.sees c.loop.invariant.last c.in-Ok.ensures.ok.1 c.in-Ok.ensures.below

pub loop-preserved : goal.loop-preserved
loop-preserved c =
    let lost = c.loop.invariant.loses in
    let moved : (c.loop.at < c.in-Err-Moved.seen) × (commit_view c.reserve.new.seat ≡ saw c.in-Err-Moved.seen (commit_view c.loop.seat)) = search rules in
    let sees : Sees (commit_view c.args.seat.now) (commit_view c.reserve.new.seat) = search rules in
    let last : c.in-Err-Moved.seen ≡ (commit_view c.reserve.new.seat).seen = search rules in
    let idle : IsIdle (commit_view c.reserve.new.seat) = search rules in
    let count : length (c.loop.at ∷ lost.earlier) ≡ c.loop.counter + 1 = (let e = lost.count in omega arith) in
    record {
      same = c.in-Err-Moved.ensures.same;
      sees = sees;
      last = last;
      idle = idle;
      loses = record { earlier = c.loop.at ∷ lost.earlier; count = count; ascend = (moved.0, lost.ascend) };
    }
