use Rattle.std.proofs.Common.{◌-◌, ◌^◌, ◌≤◌, ℕ, arith}
use Rattle.lc_range.proofs.RoomLemmas.{has_below}
use Rattle.lc_tx.proofs.tx.Tx.is_set.Goals as goal

pub returns-in_default : goal.returns-in_default
returns-in_default c =
    let last : ℕ = 2 ^ 32 - 1 in
    let long : 2 ^ 32 ≤ c.args.len = omega (arith, c.in_default.ensures) in (
      λ e. absurd cc,
      λ all. absurd (omega (arith, has_below c.args.self.now.set last c.args.segment last c.ranges-runs.ensures.ends (all last (omega (arith, c.ranges.offset)) (omega (arith, long))))),
    )
