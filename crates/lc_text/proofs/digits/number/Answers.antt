use Rattle.std.proofs.Common.{◌≡◌, ◌^◌, length, arith, true, nat_le, ◌∙◌, sym}
use Rattle.std.proofs.lemmas.Bool.Decides.{nat_tests}
use Rattle.lc_text.specs.Line.{number_of}
use Rattle.lc_text.proofs.Numbers.{at_end}
use Rattle.lc_text.proofs.digits.number.Goals as goal

pub returns : goal.returns
unfolding number_of
returns c =
    let some : nat_le 1 (length c.args.word.now) ≡ true = grind (arith, nat_tests) in
    let few : nat_le (length c.args.word.now) 20 ≡ true = grind (arith, nat_tests) in
    rw (some, few) (sym (at_end (2 ^ 64) c.loop-byte.value c.loop-byte.byte-index c.args.word.now (omega arith) c.loop-byte.invariant.1) ∙ c.loop-byte.invariant.0)
