use Rattle.std.proofs.Common.{◌≡◌, ℕ, ◌<◌, true}
use Rattle.std.specs.Prelude.{nat_le}
use Rattle.lc_model.specs.State.{Setting, State}
use Rattle.lc_settled.specs.Numbers.{Numbers}
use Rattle.lc_events.specs.Trimming.{AllFit}
use Rattle.lc_journal.specs.Trimming.{IsKnown}
use Rattle.lc_events.proofs.trimming.is_applied.Given as goal

abbrev pub invariant-loop-node : goal.invariant-loop-node
invariant-loop-node g l =
    (m : Setting) (s : State) (x : Numbers) → AllFit g.D.Area m l.nodes s x → IsKnown m l.lock → (k : ℕ) → k < l.node-index
    → nat_le l.lock.seq (x.applied k l.lock.segment) ≡ true
