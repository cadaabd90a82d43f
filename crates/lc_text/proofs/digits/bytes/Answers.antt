use Rattle.std.proofs.Common.{◌≡◌, length, get_or, take, Some, None, arith, sym, ◌∙◌}
use Rattle.std.proofs.lemmas.Bool.Decides.{nat_tests}
use Rattle.lc_text.specs.Line.{pair_of}
use Rattle.lc_text.proofs.Items.{no_pair, next_pair, all_pairs, odd_digit}
use Rattle.lc_text.proofs.digits.bytes.Goals as goal

pub returns-in_default : goal.returns-in_default
returns-in_default c =
    let rest = c.loop-rest.rest.now in
    let none : pair_of (get_or (take 2 rest) 0 0) (get_or (take 2 rest) 1 0) ≡ None = rw (← c.split_at.ensures.front) (sym c.pair.ensures ∙ c.in_default.is) in
    no_pair c.loop-rest.bytes.items rest _ (omega arith) none c.loop-rest.invariant

pub loop-rest-preserved : goal.loop-rest-preserved
loop-rest-preserved c =
    let rest = c.loop-rest.rest.now in
    let some : pair_of (get_or (take 2 rest) 0 0) (get_or (take 2 rest) 1 0) ≡ Some c.in-Some.byte = rw (← c.split_at.ensures.front) (sym c.pair.ensures ∙ c.in-Some.is) in
    rw (c.in_ok-push.ensures.items, c.split_at.ensures.back) (next_pair c.loop-rest.bytes.items rest c.in-Some.byte _ (omega arith) some c.loop-rest.invariant)

pub returns-then-is_empty : goal.returns-then-is_empty
returns-then-is_empty c =
    let none : length c.loop-rest.rest.now ≡ 0 = grind (arith, nat_tests) in
    all_pairs c.loop-rest.bytes.items c.loop-rest.rest.now _ none c.loop-rest.invariant

pub returns-else-is_empty : goal.returns-else-is_empty
returns-else-is_empty c =
    let one : length c.loop-rest.rest.now ≡ 1 = grind (arith, nat_tests) in
    odd_digit c.loop-rest.bytes.items c.loop-rest.rest.now _ one c.loop-rest.invariant
