use Rattle.std.proofs.Common.{ℕ, ◌<◌}
use Rattle.lc_core.specs.Truncating.{IsBlocked}
use Rattle.lc_core.proofs.world.World.has_blocked_in.Given as goal

abbrev pub invariant-loop-page : goal.invariant-loop-page
invariant-loop-page g l = (page : ℕ) → page < l.page → IsBlocked g.D.Area l.self.phase l.node l.segment page → ⊥
