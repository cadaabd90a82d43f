use Rattle.std.proofs.lemmas.Result.{IfOk-weaker}
use Rattle.lc_words.proofs.Asking.{adds_option}
use Rattle.lc_words.proofs.program.with_flag.Goals as goal

pub returns : goal.returns
returns c = λ app start. IfOk-weaker c.arg.result _ _ (λ r added. adds_option _ r _ _ _ added start c.flag.ensures.rule c.flag.ensures.local) c.arg.ensures
