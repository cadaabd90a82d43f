use Rattle.std.proofs.Common.{◌≡◌, Some}
use Rattle.std.specs.Prelude.{slice_get}
use Rattle.std.proofs.lemmas.Option.{slice_get_within}
use Rattle.lc_record.proofs.ListLemmas.{OnOk_then as on_ok}
use Rattle.lc_cluster.specs.Closing.{left_on}
use Rattle.lc_node.proofs.EachPlace.{first_is}
use Rattle.lc_cluster.proofs.LinesClosed.{added, gives_these, stand_more}
use Rattle.lc_cluster.proofs.closing_lines.close_both.Goals as goal
use Rattle.std.proofs.Common.{arith}

pub returns-clause-tokens : goal.returns-clause-tokens
returns-clause-tokens g c =
    let mine = c.args.mine.now in let peer = c.args.peer.now in
    let there = c.requires.lines.there in let back = c.requires.lines.back in
    let to : slice_get mine.to.ends.items 0 ≡ Some c.remove.result = first_is mine.to.ends.items c.remove.result (omega (arith, slice_get_within mine.to.ends.items 0 there.0 there.2)) c.remove.ensures.value in
    let from : slice_get peer.from.ends.items 0 ≡ Some c.remove-2.result = first_is peer.from.ends.items c.remove-2.result (omega (arith, slice_get_within peer.from.ends.items 0 there.1 there.3)) c.remove-2.ensures.value in
    let to_me : slice_get peer.to.ends.items 0 ≡ Some c.remove-3.result = first_is peer.to.ends.items c.remove-3.result (omega (arith, slice_get_within peer.to.ends.items 0 back.0 back.2)) c.remove-3.ensures.value in
    let from_me : slice_get mine.from.ends.items 0 ≡ Some c.remove-4.result = first_is mine.from.ends.items c.remove-4.result (omega (arith, slice_get_within mine.from.ends.items 0 back.1 back.3)) c.remove-4.ensures.value in
    let first = left_on c.remove.result c.remove-2.result in
    on_ok c.close-2.result c.close-2.ensures.tokens (λ is. record {
      there = gives_these (slice_get mine.to.ends.items 0) (slice_get peer.from.ends.items 0) c.close-2.new.tokens.items c.remove.result c.remove-2.result to from
          (stand_more first c.close.new.tokens.items c.close-2.new.tokens.items (added first c.args.tokens.now.items c.close.new.tokens.items c.in_ok-close.ensures.tokens) c.close-2.ensures.grows);
      back = gives_these (slice_get peer.to.ends.items 0) (slice_get mine.from.ends.items 0) c.close-2.new.tokens.items c.remove-3.result c.remove-4.result to_me from_me
          (added (left_on c.remove-3.result c.remove-4.result) c.close.new.tokens.items c.close-2.new.tokens.items is);
    })
