use Rattle.std.proofs.Common.{◌≡◌, ◌≢◌, ◌<◌, ℕ, Some, length, refl, sym, ap, subst, ◌∙◌, arith}
use Rattle.std.specs.Prelude.{slice_get, slice_set}
use Rattle.std.proofs.lemmas.Option.{slice_get_within, same_Some as some_same}
use Rattle.std.proofs.lemmas.List.{length-set as length_set}
use Rattle.lc_record.proofs.ListLemmas.{slice_get-set_same as get_same, slice_get-set_other as get_other}
use Rattle.lc_cluster.specs.Closing.{GivesBoth, IsBehindFirst}
use Rattle.lc_cluster.specs.declared.wiring.NodeEnds.{NodeEnds}
use Rattle.lc_log_side.proofs.Backwards.{got_at}
use Rattle.lc_cluster.proofs.LinesClosed.{both_more, drop_one_more, given_there, grows_more, grows_same, joined_here}
use Rattle.lc_cluster.proofs.closing_lines.close_with_all.Goals as goal
use mathlib.Core.Logic.{dite}
use native.Mathlib.Decide.{ℕ_discrete as dec_eq}

pub loop-place-init : goal.loop-place-init
loop-place-init g c = record {
  count = refl;
  to = refl;
  from = refl;
  grows = grows_same c.args.tokens.now.items;
  done = λ k old new within. absurd (omega (arith, within));
  ahead = λ k from. refl;
  given = λ k peer within. absurd (omega (arith, within));
}

pub close_both-requires : goal.close_both-requires
close_both-requires g c =
    let inv = c.loop-place.invariant in let place = c.loop-place.place in let peer = c.index_mut.result.now in
    let within : place < length c.loop-place.peers.items = (let count = inv.count in let test = c.loop-place-test.true in let end = c.len-place-end.ensures in let whole = c.args.peers.now.ok.0 in omega arith) in
    let here : slice_get c.args.peers.now.items place ≡ Some peer = sym (inv.ahead place (omega arith)) ∙ got_at c.loop-place.peers.items place peer c.index_mut.ensures.value within in
    record { lines = joined_here place c.args.mine c.loop-place.mine inv.to inv.from peer (c.requires.lines place peer here) }

pub returns-in_err-close_both-clause-grows : goal.returns-in_err-close_both-clause-grows
returns-in_err-close_both-clause-grows g c = grows_more c.args.tokens.now.items c.loop-place.tokens.items c.close_both.new.tokens.items c.loop-place.invariant.grows c.close_both.ensures.grows

pub loop-place-preserved : goal.loop-place-preserved
loop-place-preserved g c =
    let inv = c.loop-place.invariant in let place = c.loop-place.place in let peer = c.index_mut.result.now in
    let peers = c.loop-place.peers.items in let first = c.args.peers.now.items in let after = c.close_both.new.peer in
    let mine = c.loop-place.mine in let news = slice_set peers place after in
    let tokens = c.close_both.new.tokens.items in
    let within : place < length peers = (let count = inv.count in let test = c.loop-place-test.true in let end = c.len-place-end.ensures in let whole = c.args.peers.now.ok.0 in omega arith) in
    let there : slice_get peers place ≡ Some peer = got_at peers place peer c.index_mut.ensures.value within in
    let here : slice_get first place ≡ Some peer = sym (inv.ahead place (omega arith)) ∙ there in
    record {
      count = length_set peers place after ∙ inv.count;
      to = drop_one_more place c.args.mine.to.ends.items mine.to.ends.items c.close_both.new.mine.to.ends.items inv.to c.in_ok-close_both.ensures.mine.to;
      from = drop_one_more place c.args.mine.from.ends.items mine.from.ends.items c.close_both.new.mine.from.ends.items inv.from c.in_ok-close_both.ensures.mine.from;
      grows = grows_more c.args.tokens.now.items c.loop-place.tokens.items tokens inv.grows c.close_both.ensures.grows;
      done = λ k old new below had has. dite (dec_eq k place)
          (λ is. subst (λ (o : NodeEnds g.row.P.Denot). IsBehindFirst o new) (some_same peer old (sym here ∙ (ap (slice_get first) (sym is) ∙ had)))
          (subst (λ (n : NodeEnds g.row.P.Denot). IsBehindFirst peer n) (some_same after new (sym (get_same peers place peer after there) ∙ (ap (slice_get news) (sym is) ∙ has))) c.in_ok-close_both.ensures.peer))
          (λ other. inv.done k old new (omega arith) had (sym (get_other peers place k after other) ∙ has));
      ahead = λ k past. let other : k ≢ place = λ e. omega (arith, e, past) in get_other peers place k after other ∙ inv.ahead k (omega arith);
      given = λ k old below had. dite (dec_eq k place)
          (λ is. subst (λ (n : ℕ). GivesBoth n c.args.mine old tokens) (sym is) (subst (λ (o : NodeEnds g.row.P.Denot). GivesBoth place c.args.mine o tokens) (some_same peer old (sym here ∙ (ap (slice_get first) (sym is) ∙ had)))
          (given_there place c.args.mine mine inv.to inv.from peer tokens c.in_ok-close_both.ensures.tokens)))
          (λ other. both_more k c.args.mine old c.loop-place.tokens.items tokens (inv.given k old (omega arith) had) c.close_both.ensures.grows);
    }

pub returns-clause-peers : goal.returns-clause-peers
returns-clause-peers g c =
    let inv = c.loop-place.invariant in
    record {
      long = inv.count;
      each = λ k old new had has. inv.done k old new (let within = slice_get_within c.args.peers.now.items k old had in let test = c.loop-place-test.false in let end = c.len-place-end.ensures in let whole = c.args.peers.now.ok.0 in omega arith) had has;
    }

pub returns-clause-tokens : goal.returns-clause-tokens
returns-clause-tokens g c = λ k old had. c.loop-place.invariant.given k old
    (let within = slice_get_within c.args.peers.now.items k old had in let test = c.loop-place-test.false in let end = c.len-place-end.ensures in let whole = c.args.peers.now.ok.0 in omega arith) had
