use Rattle.std.proofs.Common.{◌≡◌, codes}
use Rattle.std.proofs.lemmas.Result.{IfOk-weaker}
use Rattle.clap.specs.Words.{App, with_rule}
use Rattle.lc_words.specs.CommandLine.{IsLike, from_to, option_rule, with_sizes}
use Rattle.lc_words.proofs.Asking.{takes}
use Rattle.lc_words.proofs.program.with_size_options.Goals as goal

pub returns : goal.returns
returns c = λ app start.
    let nodes_take : c.range.result ≡ from_to 1 8 = rw (c.value_parser.ensures, c.new.ensures.start, c.new.ensures.end) at c.range.ensures in
    let threads_take : c.range-2.result ≡ from_to 1 16 = rw (c.value_parser-2.ensures, c.new-2.ensures.start, c.new-2.ensures.end) at c.range-2.ensures in
    let segments_take : c.range-3.result ≡ from_to 1 16 = rw (c.value_parser-3.ensures, c.new-3.ensures.start, c.new-3.ensures.end) at c.range-3.ensures in
    let pages_take : c.range-4.result ≡ from_to 1 1024 = rw (c.value_parser-4.ensures, c.new-4.ensures.start, c.new-4.ensures.end) at c.range-4.ensures in
    let words_take : c.range-5.result ≡ from_to 64 4096 = rw (c.value_parser-5.ensures, c.new-5.ensures.start, c.new-5.ensures.end) at c.range-5.ensures in
    let one : App = with_rule app (option_rule (codes "nodes") (codes "1") (from_to 1 8)) in
    let two : App = with_rule one (option_rule (codes "threads") (codes "1") (from_to 1 16)) in
    let three : App = with_rule two (option_rule (codes "segments") (codes "1") (from_to 1 16)) in
    let four : App = with_rule three (option_rule (codes "pages") (codes "1") (from_to 1 1024)) in
    let like_one = takes c.in_ok-command.command app (option_rule (codes "nodes") (codes "1")) c.range.result (from_to 1 8) nodes_take (c.in_ok-command.ensures app start) in
    let like_two = takes c.in_ok-command-2.command one (option_rule (codes "threads") (codes "1")) c.range-2.result (from_to 1 16) threads_take (c.in_ok-command-2.ensures one like_one) in
    let like_three = takes c.in_ok-command-3.command two (option_rule (codes "segments") (codes "1")) c.range-3.result (from_to 1 16) segments_take (c.in_ok-command-3.ensures two like_two) in
    let like_four = takes c.in_ok-command-4.command three (option_rule (codes "pages") (codes "1")) c.range-4.result (from_to 1 1024) pages_take (c.in_ok-command-4.ensures three like_three) in
    IfOk-weaker c.with_option-5.result (λ larger. IsLike larger (with_rule four (option_rule (codes "words") (codes "64") c.range-5.result))) (λ larger. IsLike larger (with_sizes app))
    (λ larger like. takes larger four (option_rule (codes "words") (codes "64")) c.range-5.result (from_to 64 4096) words_take like) (c.with_option-5.ensures four like_four)
