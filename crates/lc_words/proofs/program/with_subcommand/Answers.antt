use Rattle.std.proofs.Common.{subst}
use Rattle.std.proofs.lemmas.Result.{IfOk-weaker}
use Rattle.std.specs.Result.{IfOk}
use Rattle.lc_words.specs.CommandLine.{IsLike}
use Rattle.lc_words.proofs.Asking.{adds_subcommand}
use Rattle.lc_words.proofs.program.with_subcommand.Goals as goal

pub returns : goal.returns
returns c = λ app below is under.
    let sub : IsLike c.in_ok-made.field-0 below = subst (λ made. IfOk made (λ it. IsLike it below)) c.in_ok-made.was under in
    IfOk-weaker c.subcommand.result _ _ (λ m added. adds_subcommand _ _ m _ _ added is sub) c.subcommand.ensures
