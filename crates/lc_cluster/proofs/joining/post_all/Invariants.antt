use Rattle.std.proofs.Common.{◌≡◌, ◌≤◌, ◌+◌, ◌++◌, All, length, vec_capacity}
use Rattle.lc_cluster.specs.Keys.{HasOneKey, wired_in}
use Rattle.lc_cluster.proofs.joining.post_all.Given as goal

abbrev pub invariant-loop : goal.invariant-loop
invariant-loop g l = record {
  count : length l.posts.items + length l.ends.items ≡ length l.fn.ends.items;
  place : length l.posts.items ≡ l.counter;
  space : length l.fn.ends.items ≤ vec_capacity l.posts;
  keys : wired_in l.posts.items ++ l.ends.items ≡ l.fn.ends.items;
  one_key : All HasOneKey l.posts.items;
}
