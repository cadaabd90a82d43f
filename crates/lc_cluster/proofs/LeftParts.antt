-- Of a cluster: what a cluster leaves, of what stands at its members.
use Rattle.std.proofs.Common.{◌≡◌, ℕ, List, [], ◌∷◌, refl, Some, All, get_or, length, map, sym, ap, subst, ◌∙◌, arith}
use Rattle.std.specs.Global.{Vec}
use Rattle.std.specs.Prelude.{slice_get, vec_len}
use Rattle.std.proofs.lemmas.List.{length-map}
use Rattle.std.proofs.lemmas.List.Elements.{All-map}
use Rattle.std.proofs.lemmas.Option.{slice_get-map, same_Some as some_same}
use Rattle.lc_lock.specs.Loans.{key_of}
use Rattle.lc_stage.specs.Seats.{IsSeatOf}
use Rattle.lc_stage.specs.declared.seats.CommitSeat.{CommitSeat}
use Rattle.lc_cluster.specs.Keys.{AreWiredAs, HasOneKey, wired_by, wired_in}
use Rattle.lc_cluster.specs.LeftBy.{AreOwnSeats, HaveOwnSeats, node_in, post_of}
use Rattle.lc_segments.specs.Journey.{Journey}
use Rattle.lc_cluster.specs.declared.cluster.Cluster.{Cluster}
use Rattle.lc_cluster.specs.declared.joining.Post.{Post}
use Rattle.lc_cluster.specs.declared.member.Member.{Member}
use Rattle.lc_node.specs.declared.node.Node.{Node}
use Rattle.lc_cluster.specs.declared.wiring.NodeEnds.{NodeEnds}
use Rattle.lc_node.proofs.Joined.{all_from_each}

keys_of_posts : {D : Type 0} (members : List (Member D)) → wired_in (map post_of members) ≡ wired_by members
keys_of_posts [] = refl
keys_of_posts (member ∷ members) = ap (λ (l : List (NodeEnds (Journey _))). key_of member.to ∷ l) (keys_of_posts members)

module _ {D : Type 0} (cluster : Cluster D) where
  -- the seats of the cluster are those of its nodes
  pub own_seats : (nodes : List (Node D)) (seats : List (Vec CommitSeat)) → nodes ≡ map node_in cluster.members.items → AreOwnSeats cluster seats → HaveOwnSeats nodes seats
  own_seats nodes seats are own = record {
    count = own.count ∙ sym (ap (λ (l : List (Node D)). length l) are ∙ length-map cluster.members.items node_in);
    own = λ place node mine got here k d within.
        (let its = own.own place mine here k d within in
        let there : slice_get nodes place ≡ Some its.0 = ap (λ (l : List (Node D)). slice_get l place) are ∙ (slice_get-map node_in cluster.members.items place ∙ its.1) in
        let same : its.0 ≡ node = some_same its.0 node (sym there ∙ got) in
        (subst (λ (n : Node D). IsSeatOf n.stage (get_or mine.items k d)) same its.2, its.3));
  }

  -- each node has all segments
  pub all_segments : (nodes : List (Node D)) → nodes ≡ map node_in cluster.members.items → All (λ (node : Node D). vec_len node.segments ≡ cluster.geometry.segments) nodes
  all_segments nodes are = subst (All (λ (node : Node D). vec_len node.segments ≡ cluster.geometry.segments)) (sym are)
      (All-map (λ (node : Node D). vec_len node.segments ≡ cluster.geometry.segments) node_in cluster.members.items
      (all_from_each (λ (member : Member D). vec_len member.node.segments ≡ cluster.geometry.segments) cluster.members.items cluster.all_segments))

  -- the locks beside the nodes know the lines
  pub all_wired : (posts : Vec (Post (Journey D))) → posts.items ≡ map post_of cluster.members.items → AreWiredAs (vec_len posts) (wired_in posts.items)
  all_wired posts are =
      let long = ap (λ (l : List (Post (Journey D))). length l) are ∙ length-map cluster.members.items post_of in
      let count : vec_len cluster.members ≡ vec_len posts = (let members = cluster.members.ok.0 in let many = posts.ok.0 in omega arith) in
      subst (AreWiredAs (vec_len posts)) (sym (ap (λ (l : List (Post (Journey D))). wired_in l) are ∙ keys_of_posts cluster.members.items))
      (subst (λ (n : ℕ). AreWiredAs n (wired_by cluster.members.items)) count cluster.wired)

  pub all_one_key : (posts : List (Post (Journey D))) → posts ≡ map post_of cluster.members.items → All HasOneKey posts
  all_one_key posts are = subst (All HasOneKey) (sym are) (All-map HasOneKey post_of cluster.members.items cluster.one_key)
