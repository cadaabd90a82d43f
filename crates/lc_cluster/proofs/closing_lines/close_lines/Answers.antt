use Rattle.std.proofs.Common.{◌≡◌, ◌<◌, ◌∷◌, List, length, sym, ap, subst, arith}
use Rattle.lc_cluster.specs.Closing.{GivesAll}
use Rattle.lc_cluster.specs.Keys.{AreWiredAs}
use Rattle.lc_cluster.specs.declared.wiring.NodeEnds.{NodeEnds}
use Rattle.lc_cluster.proofs.LinesClosed.{both_more, given_more, grows_more, grows_same, joined_first, lines_left, split_first}
use Rattle.lc_cluster.proofs.closing_lines.close_lines.Goals as goal

pub close_with_all-requires : goal.close_with_all-requires
close_with_all-requires g c =
    let all = c.loop.all.items in let mine = c.remove-mine.result in let left = c.remove-mine.new.self.items in
    let some : 0 < length all = (let count = c.loop.invariant.count in let test = c.loop-test.true in let end = c.len-end.ensures in let whole = c.args.all.ok.0 in omega arith) in
    let is : all ≡ mine ∷ left = split_first all left mine some c.remove-mine.ensures.value c.remove-mine.ensures.items in
    record { lines = joined_first mine left (subst (λ (l : List (NodeEnds g.row.P.Denot)). AreWiredAs (length l) l) is c.loop.invariant.wired) }

pub loop-preserved : goal.loop-preserved
loop-preserved g c =
    let inv = c.loop.invariant in
    let all = c.loop.all.items in let mine = c.remove-mine.result in let left = c.remove-mine.new.self.items in
    let some : 0 < length all = (let count = inv.count in let test = c.loop-test.true in let end = c.len-end.ensures in let whole = c.args.all.ok.0 in omega arith) in
    let is : all ≡ mine ∷ left = split_first all left mine some c.remove-mine.ensures.value c.remove-mine.ensures.items in
    let news = c.close_with_all.new.peers.items in let each = c.in_ok-close_with_all.ensures.peers in
    let long : length all ≡ length (mine ∷ left) = ap (λ (l : List (NodeEnds g.row.P.Denot)). length l) is in
    record {
      count = (let same = each.long in let count = inv.count in omega arith);
      wired = lines_left mine left news each (subst (λ (l : List (NodeEnds g.row.P.Denot)). AreWiredAs (length l) l) is inv.wired);
      given = λ tokens grows news_given. inv.given tokens (grows_more c.loop.tokens.items c.close_with_all.new.tokens.items tokens c.in_ok-close_with_all.ensures.grows grows)
          (subst (λ (l : List (NodeEnds g.row.P.Denot)). GivesAll l tokens) (sym is)
          (given_more mine left news each tokens (λ place peer at. both_more place mine peer c.close_with_all.new.tokens.items tokens (c.in_ok-close_with_all.ensures.tokens place peer at) grows) news_given));
    }

pub returns : goal.returns
returns g c =
    let none : length c.loop.all.items ≡ 0 = (let count = c.loop.invariant.count in let test = c.loop-test.false in let end = c.len-end.ensures in let whole = c.args.all.ok.0 in let below = c.loop.auto.counter-end in omega arith) in
    c.loop.invariant.given c.loop.tokens.items (grows_same c.loop.tokens.items) (λ from to within. absurd (omega (arith, none, within)))
