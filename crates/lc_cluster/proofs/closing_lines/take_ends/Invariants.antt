use Rattle.std.proofs.Common.{◌≡◌, ◌≤◌, ◌+◌, ℕ, All, Some, vec_capacity, vec_len}
use Rattle.std.specs.Prelude.{slice_get}
use Rattle.lc_lock.specs.Loans.{key_of}
use Rattle.lc_cluster.specs.Keys.{AreOnLines, HasOneKey}
use Rattle.lc_cluster.specs.declared.joining.Post.{Post}
use Rattle.lc_cluster.specs.declared.wiring.NodeEnds.{NodeEnds}
use Rattle.lc_cluster.proofs.closing_lines.take_ends.Given as goal

abbrev pub invariant-loop : goal.invariant-loop
invariant-loop g l = record {
  count : vec_len l.all ≡ l.counter;
  left : vec_len l.posts + l.counter ≡ vec_len l.fn.posts;
  space : vec_len l.fn.posts ≤ vec_capacity l.all;
  one_key : All HasOneKey l.posts.items;
  posts : (k : ℕ) (post : Post g.row.P.Denot) → slice_get l.posts.items k ≡ Some post → slice_get l.fn.posts.items (l.counter + k) ≡ Some post;
  ends : (k : ℕ) (ends : NodeEnds g.row.P.Denot) → slice_get l.all.items k ≡ Some ends → (post : Post g.row.P.Denot) → slice_get l.fn.posts.items k ≡ Some post → AreOnLines (key_of post.to) ends;
}
