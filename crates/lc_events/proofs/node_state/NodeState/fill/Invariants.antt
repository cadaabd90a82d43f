use Rattle.std.proofs.Common.{◌≡◌, ℕ, ◌<◌, ◌≤◌}
use Rattle.lc_token.specs.KnownClean.{KnowsNothing, known as known_of}
use Rattle.lc_desk.specs.Blank.{AreFreshSlots}
use Rattle.lc_events.specs.Fresh.{known_first}
use Rattle.lc_events.proofs.node_state.NodeState.fill.Given as goal

abbrev pub invariant-loop-before : goal.invariant-loop-before
invariant-loop-before g l = record {
  desk : l.self.desk ≡ l.initial.self.desk;
  journal : l.self.journal ≡ l.initial.self.journal;
  seen : (node : ℕ) → AreFreshSlots l.recovered node l.initial.self.desk.here.slots.items → KnowsNothing l.initial.self.known
      → (segment : ℕ) → 1 ≤ segment → segment ≤ l.before → known_of l.self.known segment ≡ known_first l.recovered node segment;
  unseen : (node : ℕ) → AreFreshSlots l.recovered node l.initial.self.desk.here.slots.items → KnowsNothing l.initial.self.known
      → (segment : ℕ) → l.before < segment → known_of l.self.known segment ≡ 0;
}
