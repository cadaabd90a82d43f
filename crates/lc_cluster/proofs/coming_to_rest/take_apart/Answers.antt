use Rattle.std.proofs.Common.{◌≡◌, ◌<◌, ◌≤◌, ◌++◌, ◌∷◌, [], Some, length, map, sym, ap, ◌∙◌, arith}
use Rattle.std.specs.Prelude.{slice_get}
use Rattle.std.proofs.lemmas.List.{take_all}
use Rattle.lc_record.proofs.ListLemmas.{left_first as next_is, left_more}
use Rattle.lc_cluster.specs.LeftBy.{node_in, post_of}
use Rattle.lc_node.proofs.FromFront.{mapped_more}
use Rattle.lc_cluster.proofs.coming_to_rest.take_apart.Goals as goal

pub loop-preserved : goal.loop-preserved
loop-preserved g c =
    let inv = c.loop.invariant in
    let all = c.args.members.items in
    let n = c.loop.counter in
    let some : n < length all = omega (arith, c.loop-test.true, c.len-end.ensures, c.args.members.ok.0) in
    let next : slice_get all n ≡ Some c.remove-node.result = next_is all c.loop.members.items n c.remove-node.result inv.left some c.remove-node.ensures.value in
    record {
      left = left_more all c.loop.members.items c.remove-node.new.self.items n inv.left c.remove-node.ensures.items;
      node_count = omega (arith, c.push_reserved.ensures.len, inv.node_count);
      post_count = omega (arith, c.push_reserved-in-loop.ensures.len, inv.post_count);
      nodes_fit = omega (arith, c.push_reserved.ensures.capacity, inv.nodes_fit);
      posts_fit = omega (arith, c.push_reserved-in-loop.ensures.capacity, inv.posts_fit);
      nodes = c.push_reserved.ensures.items ∙ ((λ k. inv.nodes k ++ c.remove-node.result.node ∷ []) ∙ sym (mapped_more node_in all n c.remove-node.result next));
      posts = c.push_reserved-in-loop.ensures.items ∙ ((λ k. inv.posts k ++ post_of c.remove-node.result ∷ []) ∙ sym (mapped_more post_of all n c.remove-node.result next));
    }

pub returns-clause-nodes : goal.returns-clause-nodes
returns-clause-nodes g c =
    let all = c.args.members.items in
    let reached : length all ≤ c.loop.counter = omega (arith, c.loop-test.false, c.len-end.ensures, c.args.members.ok.0) in
    c.loop.invariant.nodes ∙ ap (map node_in) (take_all c.loop.counter all reached)

pub returns-clause-posts : goal.returns-clause-posts
returns-clause-posts g c =
    let all = c.args.members.items in
    let reached : length all ≤ c.loop.counter = omega (arith, c.loop-test.false, c.len-end.ensures, c.args.members.ok.0) in
    c.loop.invariant.posts ∙ ap (map post_of) (take_all c.loop.counter all reached)
