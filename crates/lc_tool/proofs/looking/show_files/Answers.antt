use Rattle.std.proofs.lemmas.Result.{IfOk-weaker}
use Rattle.lc_tool.proofs.Views.{shows_stop}
use Rattle.lc_tool.proofs.looking.show_files.Goals as goal

pub returns-in-Err : goal.returns-in-Err
returns-in-Err g c = record {
  tells = IfOk-weaker c.not_opened.result _ _ (λ status told. (told.0, shows_stop c.args.view c.args.geometry.now told.0 status told.1, told.2)) c.not_opened.ensures.shown;
}
