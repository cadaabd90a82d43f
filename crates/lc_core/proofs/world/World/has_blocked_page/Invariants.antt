use Rattle.std.proofs.Common.{ℕ, ◌<◌, ◌+◌}
use Rattle.lc_core.specs.Truncating.{HasBlockedIn}
use Rattle.lc_core.proofs.world.World.has_blocked_page.Given as goal

abbrev pub invariant-loop-place : goal.invariant-loop-place
invariant-loop-place g l = (place : ℕ) → place < l.place → HasBlockedIn g.D.Area l.self.phase l.node (place + 1) l.pages → ⊥
