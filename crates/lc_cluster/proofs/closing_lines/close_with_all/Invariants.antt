use Rattle.std.proofs.Common.{◌≡◌, ◌<◌, ◌≤◌, ℕ, Some, drop, length}
use Rattle.std.specs.Prelude.{slice_get}
use Rattle.lc_cluster.specs.Closing.{GivesBoth, Grows, IsBehindFirst}
use Rattle.lc_cluster.specs.declared.wiring.NodeEnds.{NodeEnds}
use Rattle.lc_cluster.proofs.closing_lines.close_with_all.Given as goal

abbrev pub invariant-loop-place : goal.invariant-loop-place
invariant-loop-place g l = record {
  count : length l.peers.items ≡ length l.initial.peers.items;
  to : l.mine.to.ends.items ≡ drop l.place l.fn.mine.to.ends.items;
  from : l.mine.from.ends.items ≡ drop l.place l.fn.mine.from.ends.items;
  grows : Grows l.initial.tokens.items l.tokens.items;
  done : (k : ℕ) (old new : NodeEnds g.row.P.Denot) → k < l.place → slice_get l.initial.peers.items k ≡ Some old → slice_get l.peers.items k ≡ Some new → IsBehindFirst old new;
  ahead : (k : ℕ) → l.place ≤ k → slice_get l.peers.items k ≡ slice_get l.initial.peers.items k;
  given : (k : ℕ) (peer : NodeEnds g.row.P.Denot) → k < l.place → slice_get l.initial.peers.items k ≡ Some peer → GivesBoth k l.fn.mine peer l.tokens.items;
}
