use Rattle.std.proofs.Common.{inl}
use Rattle.std.proofs.lemmas.Result.{IfOk-weaker}
use Rattle.lc_tool.proofs.checking_json.look.Goals as goal

pub returns-in-Err : goal.returns-in-Err
returns-in-Err g c = record {
  tells = IfOk-weaker c.tell_unlooked.result _ _ (λ status told. (told.0, inl told.1, told.2)) c.tell_unlooked.ensures.tells;
}
