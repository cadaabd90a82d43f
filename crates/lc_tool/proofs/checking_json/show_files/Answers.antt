use Rattle.std.proofs.Common.{inr}
use Rattle.std.proofs.lemmas.Result.{IfOk-weaker}
use Rattle.lc_tool.proofs.checking_json.show_files.Goals as goal

pub returns-in-Err : goal.returns-in-Err
returns-in-Err g c = record {
  tells = IfOk-weaker c.refuse_json.result _ _ (λ status told. (told.0, inr (c.opening_fault.result, told.1), told.2)) c.refuse_json.ensures.tells;
}
