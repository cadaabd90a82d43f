use Rattle.std.proofs.Common.{◌≡◌, ◌<◌, length, arith, refl, not}
use Rattle.std.proofs.lemmas.Bool.Decides.{nat_tests}
use Rattle.std.proofs.lemmas.List.Sums.{prefix_len-le-length}
use Rattle.lc_text.specs.Line.{is_space}
use Rattle.lc_text.proofs.Words.{no_word, next_word, some_word}
use Rattle.lc_text.proofs.fields.Fields.word.Goals as goal

pub split_at-requires : goal.split_at-requires
split_at-requires c = omega (arith, c.spaces_len.ensures, prefix_len-le-length is_space c.args.self.now.rest.now)

pub returns-then-is_empty-clause-value : goal.returns-then-is_empty-clause-value
returns-then-is_empty-clause-value c =
    let none : length c.split_at.result.1.now ≡ 0 = grind (arith, nat_tests) in
    rw (no_word c.args.self.now.rest.now c.split_at.result.1.now c.spaces_len.result c.spaces_len.ensures c.split_at.ensures.back none) refl

pub split_at-requires-2 : goal.split_at-requires-2
split_at-requires-2 c = omega (arith, c.word_len.ensures, prefix_len-le-length (λ b. not (is_space b)) c.split_at.result.1.now)

pub returns-clause-value : goal.returns-clause-value
returns-clause-value c =
    let some : 0 < length c.split_at.result.1.now = grind (arith, nat_tests) in
    rw (next_word c.args.self.now.rest.now c.split_at.result.1.now c.spaces_len.result c.word_len.result c.spaces_len.ensures c.split_at.ensures.back some c.word_len.ensures, c.split_at-2.ensures.front, c.split_at-2.ensures.back) refl

pub returns-clause-shorter : goal.returns-clause-shorter
returns-clause-shorter c =
    let some : 0 < length c.split_at.result.1.now = grind (arith, nat_tests) in
    let word = some_word c.args.self.now.rest.now c.split_at.result.1.now c.spaces_len.result c.word_len.result c.spaces_len.ensures c.split_at.ensures.back some c.word_len.ensures in
    omega (arith, c.split_at.ensures.back_len, c.split_at-2.ensures.back_len, word)
