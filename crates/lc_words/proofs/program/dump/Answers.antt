use Rattle.std.proofs.Common.{codes}
use Rattle.std.proofs.lemmas.Result.{IfOk-weaker}
use Rattle.clap.specs.Words.{App, with_rule}
use Rattle.lc_words.specs.CommandLine.{folder_app, number_rule}
use Rattle.lc_words.proofs.Asking.{adds_option}
use Rattle.lc_words.proofs.program.dump.Goals as goal

pub returns : goal.returns
returns c =
    let folder : App = folder_app (codes "dump") in
    let one : App = with_rule folder (number_rule (codes "segment")) in
    let first = adds_option c.in_ok-over_folder.field-0 c.in_ok-arg.field-0 c.number.result folder (number_rule (codes "segment")) c.in_ok-arg.ensures c.in_ok-over_folder.ensures c.number.ensures.rule c.number.ensures.local in
    IfOk-weaker c.arg-2.result _ _ (λ r added. adds_option c.in_ok-arg.field-0 r c.number-2.result one (number_rule (codes "page")) added first c.number-2.ensures.rule c.number-2.ensures.local) c.arg-2.ensures
