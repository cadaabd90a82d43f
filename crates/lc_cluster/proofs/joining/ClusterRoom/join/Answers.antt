use Rattle.std.proofs.Common.{◌≡◌, ◌++◌, ◌∷◌, [], false, subst, ◌+◌, ◌<◌, length, Some, refl, sym, ap, ◌∙◌, arith}
use Rattle.std.specs.Prelude.{slice_get, vec_len}
use Rattle.lc_lock.specs.Loans.{key_of}
use Rattle.lc_stage.specs.declared.seats.CommitSeat.{CommitSeat as Seat}
use Rattle.std.proofs.lemmas.List.{append-nil, nil_from_length as is_nil}
use Rattle.lc_record.proofs.ListLemmas.{All-slice_get as at_each}
use Rattle.lc_cluster.specs.Keys.{AreWiredAs, HasOneKey, HasOwnKey, wired_by, wired_in}
use Rattle.lc_cluster.specs.declared.member.Member.{Member}
use Rattle.lc_node.proofs.EachPlace.{each_more, first_is, left_is}
use Rattle.lc_node.specs.declared.node.Node.{Node}
use Rattle.lc_node.specs.declared.opening.OpenedNode.{OpenedNode}
use Rattle.lc_node.proofs.Joined.{all_more}
use Rattle.lc_cluster.proofs.Joined.{both_more, front_of_all, rest_of_all}
use Rattle.lc_cluster.proofs.KeysKept.{one_more_key}
use Rattle.lc_cluster.proofs.LinesClosed.{split_first}
use Rattle.lc_cluster.proofs.joining.ClusterRoom.join.Goals as goal

pub new-node-requires : goal.new-node-requires
new-node-requires g c =
    let inv = c.loop.invariant in
    let all = c.args.nodes in
    let node = c.remove-node.result in
    let some : 0 < length c.loop.nodes.items = omega (arith, inv.nodes_left, c.loop-test.true, c.len-end.ensures, c.loop.nodes.ok.0) in
    let same : c.loop.counter + 0 ≡ c.loop.counter = omega arith in
    let here : slice_get all.items c.loop.counter ≡ Some node =
    ap (slice_get all.items) (sym same) ∙ inv.nodes 0 node (first_is c.loop.nodes.items node some c.remove-node.ensures.value) in
    at_each (λ (o : OpenedNode g.row.D.Denot). o.node.is_alone ≡ false) all.items c.loop.counter node c.requires.peers here

pub loop-preserved : goal.loop-preserved
loop-preserved g c =
    let inv = c.loop.invariant in
    let all = c.args.nodes in
    let node = c.remove-node.result in
    let post = c.remove-to.result in
    let member : Member g.row.D.Denot = record { node = node.node; to = post.to; from = post.from } in
    let pushed : c.push_reserved.new.self.items ≡ c.loop.members.items ++ member ∷ [] =
    c.push_reserved.ensures.items ∙ ap (λ (n : Node g.row.D.Denot). c.loop.members.items ++ record { node = n; to = post.to; from = post.from } ∷ []) c.new-node.ensures in
    let some : 0 < length c.loop.nodes.items = omega (arith, inv.nodes_left, c.loop-test.true, c.len-end.ensures, c.loop.nodes.ok.0) in
    let some_post : 0 < length c.loop.posts.items = omega (arith, inv.posts_left, c.loop-test.true, c.len-end.ensures, c.loop.posts.ok.0) in
    let same : c.loop.counter + 0 ≡ c.loop.counter = omega arith in
    let here : slice_get all.items c.loop.counter ≡ Some node =
    ap (slice_get all.items) (sym same) ∙ inv.nodes 0 node (first_is c.loop.nodes.items node some c.remove-node.ensures.value) in
    let split = split_first c.loop.posts.items c.remove-to.new.self.items post some_post c.remove-to.ensures.value c.remove-to.ensures.items in
    let same_key : HasOneKey post = front_of_all HasOneKey c.loop.posts.items post some_post c.remove-to.ensures.value inv.one_key in
    let member_count : length c.loop.members.items ≡ c.loop.counter = omega (arith, inv.member_count, c.loop.members.ok.0) in
    let seat_count : length c.loop.seats.items ≡ c.loop.counter = omega (arith, inv.seat_count, c.loop.seats.ok.0) in
    record {
      nodes_left = omega (arith, c.remove-node.ensures.len, inv.nodes_left);
      posts_left = omega (arith, c.remove-to.ensures.len, inv.posts_left);
      member_count = omega (arith, c.push_reserved.ensures.len, inv.member_count);
      seat_count = omega (arith, c.push_reserved-in-loop.ensures.len, inv.seat_count);
      members_fit = omega (arith, c.push_reserved.ensures.capacity, inv.members_fit);
      seats_fit = omega (arith, c.push_reserved-in-loop.ensures.capacity, inv.seats_fit);
      keys = one_more_key (λ (m : Member g.row.D.Denot). key_of m.to) c.push_reserved.new.self.items c.loop.members.items member (wired_in c.loop.posts.items) (wired_in c.remove-to.new.self.items) (key_of post.to)
          pushed (ap wired_in split) refl ∙ inv.keys;
      one_key = rest_of_all HasOneKey c.loop.posts.items c.remove-to.new.self.items c.remove-to.ensures.items inv.one_key;
      own_key = all_more HasOwnKey c.push_reserved.new.self.items c.loop.members.items member pushed inv.own_key same_key;
      nodes = λ k opened got.
          (let next : c.loop.counter + (1 + k) ≡ (c.loop.counter + 1) + k = omega arith in
          ap (slice_get all.items) (sym next) ∙ inv.nodes (1 + k) opened (left_is c.loop.nodes.items c.remove-node.new.self.items k opened c.remove-node.ensures.items got));
      sized = each_more (λ _ (m : Member g.row.D.Denot). vec_len m.node.segments ≡ c.args.geometry.segments) c.push_reserved.new.self.items c.loop.members.items member c.loop.counter
          pushed member_count inv.sized (at_each (λ (o : OpenedNode g.row.D.Denot). vec_len o.node.segments ≡ c.args.geometry.segments) all.items c.loop.counter node c.requires.all_segments here);
      peers = each_more (λ _ (m : Member g.row.D.Denot). m.node.is_alone ≡ false) c.push_reserved.new.self.items c.loop.members.items member c.loop.counter
          pushed member_count inv.peers (at_each (λ (o : OpenedNode g.row.D.Denot). o.node.is_alone ≡ false) all.items c.loop.counter node c.requires.peers here);
      numbered = each_more (λ place (m : Member g.row.D.Denot). m.node.number ≡ place) c.push_reserved.new.self.items c.loop.members.items member c.loop.counter
          pushed member_count inv.numbered (c.requires.numbered c.loop.counter node here);
      each = both_more (λ place (m : Member g.row.D.Denot) (s : Seat). slice_get all.items place ≡ Some (record { node = m.node; seat = s }))
          c.push_reserved.new.self.items c.loop.members.items c.push_reserved-in-loop.new.self.items c.loop.seats.items member node.seat c.loop.counter
          pushed c.push_reserved-in-loop.ensures.items member_count seat_count inv.each here;
    }

pub invariant_of-cluster-clause-wired : goal.invariant_of-cluster-clause-wired
invariant_of-cluster-clause-wired g c =
    let inv = c.loop.invariant in
    let all : vec_len c.loop.members ≡ vec_len c.args.nodes = (let count = inv.member_count in let left = inv.nodes_left in let test = c.loop-test.false in let end = c.len-end.ensures in omega arith) in
    let none : length c.loop.posts.items ≡ 0 = (let left = inv.posts_left in let ok = c.loop.posts.ok.0 in let count = inv.member_count in let test = c.loop-test.false in let end = c.len-end.ensures in omega arith) in
    let keys = sym (append-nil (wired_by c.loop.members.items)) ∙ (ap (λ l. wired_by c.loop.members.items ++ wired_in l) (sym (is_nil c.loop.posts.items none)) ∙ inv.keys) in
    subst (λ n. AreWiredAs n (wired_by c.loop.members.items)) (sym all) (subst (AreWiredAs (vec_len c.args.nodes)) (sym keys) c.requires.room.wired)
