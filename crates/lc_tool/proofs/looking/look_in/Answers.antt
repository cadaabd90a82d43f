use Rattle.std.proofs.lemmas.Result.{IfOk-weaker}
use Rattle.lc_tool.proofs.Views.{tells_stop}
use Rattle.lc_tool.proofs.looking.look_in.Goals as goal

pub returns-in-Err : goal.returns-in-Err
returns-in-Err g c = record {
  tells = IfOk-weaker c.stopped.result _ _ (λ status told. (told.0, tells_stop c.args.view told.0 status told.1, told.2)) c.stopped.ensures.shown;
}
