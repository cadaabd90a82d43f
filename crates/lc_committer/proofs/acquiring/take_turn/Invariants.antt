use Rattle.std.proofs.Common.{◌<◌, ◌≢◌, ℕ}
use Rattle.lc_committer.specs.Acquiring.{WasAsked}
use Rattle.lc_committer.proofs.acquiring.take_turn.Given as goal

abbrev pub invariant-loop-peer : goal.invariant-loop-peer
invariant-loop-peer g l = (peer : ℕ) → peer < l.peer → peer ≢ l.number → WasAsked g.D.Area l.cluster l.number l.segment peer
