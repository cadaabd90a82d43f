use Rattle.std.proofs.Common.{◌≡◌, List, length, ap, sym, subst, arith, rules}
use Rattle.std.proofs.lemmas.List.{length-map}
use Rattle.std.specs.Prelude.{All, IfOk}
use Rattle.lc_cluster.specs.Wiring.{AreLines, HasPeers}
use Rattle.lc_lock.specs.Loans.{key_of}
use Rattle.lc_segments.specs.Journey.{Journey}
use Rattle.lc_cluster.specs.Keys.{AreWiredAs}
use Rattle.lc_cluster.specs.declared.joining.Post.{Post}
use Rattle.lc_cluster.specs.declared.wiring.NodeEnds.{NodeEnds}
use Rattle.lc_cluster.proofs.LinesClosed.{ends_of_lines}
use Rattle.lc_cluster.proofs.joining.ClusterRoom.new.Goals as goal

pub returns : goal.returns
returns g c =
    let posts = c.in_ok-posts.posts in let ends = c.in-Ok.ends in
    let many : length ends.items ≡ c.args.nodes = subst (λ r. IfOk r (λ all. length all.items ≡ c.args.nodes)) c.in-Ok.is c.wire.ensures.count in
    let each : All (HasPeers c.args.nodes) ends.items = subst (λ r. IfOk r (λ all. All (HasPeers c.args.nodes) all.items)) c.in-Ok.is c.wire.ensures.each in
    let lines : AreLines c.args.nodes ends.items = subst (λ r. IfOk r (λ all. AreLines c.args.nodes all.items)) c.in-Ok.is c.wire.ensures.lines in
    let keys = c.in_ok-posts.ensures.keys in
    record {
      few = (let fits = c.ranges.nodes.fits in omega arith);
      count = (let long = ap (λ (l : List (NodeEnds (Journey g.row.D.Denot))). length l) keys in let ok = posts.ok.0 in let same = length-map posts.items (λ (p : Post (Journey g.row.D.Denot)). key_of p.to) in omega arith);
      wired = subst (AreWiredAs c.args.nodes) (sym keys) (ends_of_lines c.args.nodes ends.items each lines);
      one_key = c.in_ok-posts.ensures.one_key;
      no_member = search rules;
      members = search rules;
      no_seat = search rules;
      seats = search rules;
    }
