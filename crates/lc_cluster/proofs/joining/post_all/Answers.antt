use Rattle.std.proofs.Common.{◌≡◌, ◌<◌, ◌++◌, length, ap, sym, ◌∙◌, arith}
use Rattle.std.proofs.lemmas.List.{append-nil, nil_from_length as is_nil}
use Rattle.lc_lock.specs.Loans.{key_of}
use Rattle.lc_cluster.specs.Keys.{HasOneKey, wired_in}
use Rattle.lc_cluster.specs.declared.joining.Post.{Post}
use Rattle.lc_node.proofs.Joined.{all_more}
use Rattle.lc_cluster.proofs.KeysKept.{one_more_key}
use Rattle.lc_cluster.proofs.LinesClosed.{split_first}
use Rattle.lc_cluster.proofs.joining.post_all.Goals as goal

pub loop-preserved : goal.loop-preserved
loop-preserved g c =
    let inv = c.loop.invariant in
    let ends = c.loop.ends.items in let mine = c.remove.result in let left = c.remove.new.self.items in let post = c.in_ok-new.field-0 in
    let some : 0 < length ends = (let count = inv.count in let place = inv.place in let test = c.loop-test.true in let end = c.len-end.ensures in let whole = c.args.ends.ok.0 in omega arith) in
    let split = split_first ends left mine some c.remove.ensures.value c.remove.ensures.items in
    let long = ap (λ l. length l) split in
    record {
      count = (let count = inv.count in let more = c.push_reserved.ensures.len in let posts = c.loop.posts.ok.0 in let news = c.push_reserved.new.self.ok.0 in omega arith);
      place = (let place = inv.place in let more = c.push_reserved.ensures.len in let posts = c.loop.posts.ok.0 in let news = c.push_reserved.new.self.ok.0 in omega arith);
      space = (let space = inv.space in let room = c.push_reserved.ensures.capacity in omega arith);
      keys = one_more_key (λ (p : Post g.row.P.Denot). key_of p.to) c.push_reserved.new.self.items c.loop.posts.items post ends left mine c.push_reserved.ensures.items split c.in_ok-new.ensures.key ∙ inv.keys;
      one_key = all_more HasOneKey c.push_reserved.new.self.items c.loop.posts.items post c.push_reserved.ensures.items inv.one_key c.in_ok-new.ensures.one_key;
    }

pub returns-clause-keys : goal.returns-clause-keys
returns-clause-keys g c =
    let inv = c.loop.invariant in
    let none : length c.loop.ends.items ≡ 0 = (let count = inv.count in let place = inv.place in let test = c.loop-test.false in let end = c.len-end.ensures in let whole = c.args.ends.ok.0 in omega arith) in
    sym (append-nil (wired_in c.loop.posts.items)) ∙ (ap (λ l. wired_in c.loop.posts.items ++ l) (sym (is_nil c.loop.ends.items none)) ∙ inv.keys)
