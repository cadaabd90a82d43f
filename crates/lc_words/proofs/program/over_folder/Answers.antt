use Rattle.std.proofs.Common.{◌∙◌, ap}
use Rattle.std.proofs.lemmas.Result.{IfOk-weaker}
use Rattle.clap.specs.Simple.{app_of_fields}
use Rattle.clap.specs.Words.{new_app}
use Rattle.lc_words.specs.CommandLine.{IsLike}
use Rattle.lc_words.proofs.Asking.{adds_option}
use Rattle.lc_words.proofs.program.over_folder.Goals as goal

pub returns : goal.returns
returns c =
    let start : IsLike c.after_help.result (new_app c.args.name.now) = (
      ap app_of_fields c.after_help.ensures ∙ ap app_of_fields c.about.ensures ∙ c.new.ensures.app,
      ap (λ f. f.has_globals) c.after_help.ensures ∙ ap (λ f. f.has_globals) c.about.ensures ∙ c.new.ensures.local,
    ) in
    IfOk-weaker c.arg.result _ _ (λ r added. adds_option _ r _ _ _ added start c.word.ensures.rule c.word.ensures.local) c.arg.ensures
