use Rattle.std.proofs.lemmas.Result.{IfOk-weaker}
use Rattle.lc_words.specs.CommandLine.{option_rule}
use Rattle.lc_words.proofs.Asking.{adds_option}
use Rattle.lc_words.proofs.program.with_option.Goals as goal

pub returns : goal.returns
returns c = λ app start. IfOk-weaker c.arg.result _ _ (λ r added.
    adds_option c.args.command r c.option.result app (option_rule c.args.name.now c.args.default.now c.args.parser) added start c.option.ensures.rule c.option.ensures.local) c.arg.ensures
