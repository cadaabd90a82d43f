use Rattle.std.proofs.Common.{◌≡◌, ◌<◌, ◌+◌, Some, length, ap, sym, subst, ◌∙◌, arith}
use Rattle.std.specs.Prelude.{slice_get, vec_len}
use Rattle.std.proofs.lemmas.Option.{same_Some as some_same}
use Rattle.lc_lock.specs.Loans.{key_of}
use Rattle.lc_cluster.specs.Keys.{AreOnLines, AreWiredAs, HasOneKey, wired_in}
use Rattle.lc_cluster.specs.declared.joining.Post.{Post}
use Rattle.lc_cluster.specs.declared.wiring.NodeEnds.{NodeEnds}
use Rattle.lc_node.proofs.EachPlace.{each_more, first_is, left_is}
use Rattle.lc_cluster.proofs.Joined.{front_of_all, rest_of_all}
use Rattle.lc_cluster.proofs.KeysKept.{on_lines_of, still_wired, wired_long}
use Rattle.lc_cluster.proofs.closing_lines.take_ends.Goals as goal

pub take-requires : goal.take-requires
take-requires g c =
    let inv = c.loop.invariant in
    let some : 0 < length c.loop.posts.items = omega (arith, inv.left, c.loop-test.true, c.len-end.ensures, c.loop.posts.ok.0) in
    record { one_key = front_of_all HasOneKey c.loop.posts.items c.remove.result some c.remove.ensures.value inv.one_key }

pub loop-preserved : goal.loop-preserved
loop-preserved g c =
    let inv = c.loop.invariant in let post = c.remove.result in let all = c.args.posts in
    let some : 0 < length c.loop.posts.items = omega (arith, inv.left, c.loop-test.true, c.len-end.ensures, c.loop.posts.ok.0) in
    let same : c.loop.counter + 0 ≡ c.loop.counter = omega arith in
    let here : slice_get all.items c.loop.counter ≡ Some post = ap (slice_get all.items) (sym same) ∙ inv.posts 0 post (first_is c.loop.posts.items post some c.remove.ensures.value) in
    let count : length c.loop.all.items ≡ c.loop.counter = omega (arith, inv.count, c.loop.all.ok.0) in
    record {
      count = omega (arith, c.push_reserved.ensures.len, inv.count);
      left = omega (arith, c.remove.ensures.len, inv.left);
      space = omega (arith, c.push_reserved.ensures.capacity, inv.space);
      one_key = rest_of_all HasOneKey c.loop.posts.items c.remove.new.self.items c.remove.ensures.items inv.one_key;
      posts = λ k next got.
          (let after : c.loop.counter + (1 + k) ≡ (c.loop.counter + 1) + k = omega arith in
          ap (slice_get all.items) (sym after) ∙ inv.posts (1 + k) next (left_is c.loop.posts.items c.remove.new.self.items k next c.remove.ensures.items got));
      ends = each_more (λ place (ends : NodeEnds g.row.P.Denot). (p : Post g.row.P.Denot) → slice_get all.items place ≡ Some p → AreOnLines (key_of p.to) ends) c.push_reserved.new.self.items c.loop.all.items c.take.result c.loop.counter
          c.push_reserved.ensures.items count inv.ends (λ p got. subst (λ (q : Post g.row.P.Denot). AreOnLines (key_of q.to) c.take.result) (some_same post p (sym here ∙ got)) c.take.ensures);
    }

pub returns-clause-wired : goal.returns-clause-wired
returns-clause-wired g c =
    let inv = c.loop.invariant in let all = c.loop.all in let posts = c.args.posts in
    let same : vec_len all ≡ vec_len posts = (let count = inv.count in let left = inv.left in let test = c.loop-test.false in let end = c.len-end.ensures in omega arith) in
    let long : length all.items ≡ length posts.items = (let a = all.ok.0 in let b = posts.ok.0 in omega arith) in
    let wired_count : length (wired_in posts.items) ≡ vec_len posts = (let a = wired_long posts.items in let b = posts.ok.0 in omega arith) in
    subst (λ n. AreWiredAs n all.items) (sym same) (still_wired (wired_in posts.items) all.items (on_lines_of posts.items all.items long inv.ends) (vec_len posts) wired_count c.requires.wired)
