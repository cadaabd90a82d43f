use Rattle.std.proofs.Common.{◌≡◌, ◌≤◌, drop, take, map, vec_len, vec_capacity}
use Rattle.lc_cluster.specs.LeftBy.{node_in, post_of}
use Rattle.lc_cluster.proofs.coming_to_rest.take_apart.Given as goal

abbrev pub invariant-loop : goal.invariant-loop
invariant-loop g l = record {
  left : l.members.items ≡ drop l.counter l.fn.members.items;
  node_count : vec_len l.nodes ≡ l.counter;
  post_count : vec_len l.posts ≡ l.counter;
  nodes_fit : vec_len l.fn.members ≤ vec_capacity l.nodes;
  posts_fit : vec_len l.fn.members ≤ vec_capacity l.posts;
  nodes : l.nodes.items ≡ map node_in (take l.counter l.fn.members.items);
  posts : l.posts.items ≡ map post_of (take l.counter l.fn.members.items);
}
