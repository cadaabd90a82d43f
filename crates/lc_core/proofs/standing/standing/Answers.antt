use Rattle.std.proofs.Common.{◌≡◌, ◌<◌, Some, length, map, take, ap, ◌∙◌, arith}
use Rattle.std.proofs.lemmas.List.{take_all}
use Rattle.lc_token.specs.declared.token.Token.{Token}
use Rattle.lc_record.proofs.ListLemmas.{left_some as some_left_over, left_more as rest_removed}
use Rattle.lc_reading.proofs.Removed.{mapped_next, next_removed}
use Rattle.lc_core.proofs.standing.standing.Goals as goal

pub remove-requires : goal.remove-requires
remove-requires c =
    let all = c.args.tokens.items in
    let few : c.loop.counter < length all = omega (arith, c.loop-test.true, c.len-end.ensures, c.args.tokens.ok.0) in
    let some = some_left_over all c.loop.tokens.items c.loop.counter c.loop.invariant.rest few in
    omega (arith, some, c.loop.tokens.ok.0)

pub loop-preserved : goal.loop-preserved
loop-preserved c =
    let all = c.args.tokens.items in
    let n = c.loop.counter in
    let h = c.loop.invariant in
    let few : n < length all = omega (arith, c.loop-test.true, c.len-end.ensures, c.args.tokens.ok.0) in
    let next = next_removed all c.loop.tokens.items n c.remove.result h.rest few c.remove.ensures.value in
    record {
      rest = rest_removed all c.loop.tokens.items c.remove.new.self.items n h.rest c.remove.ensures.items;
      standing = mapped_next (λ (token : Token). Some token) all n c.remove.result c.loop.standing.items c.push.new.self.items next h.standing c.in_ok-push.ensures.items;
    }

pub returns : goal.returns
returns c =
    let all = c.args.tokens.items in
    let done : take c.loop.counter all ≡ all = take_all c.loop.counter all (omega (arith, c.loop-test.false, c.len-end.ensures, c.args.tokens.ok.0)) in
    c.loop.invariant.standing ∙ ap (map (λ (token : Token). Some token)) done
