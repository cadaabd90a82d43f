use Rattle.std.proofs.Common.{inl}
use Rattle.std.proofs.lemmas.Result.{IfOk-weaker}
use Rattle.lc_tool.proofs.sizing.recover_sized.Goals as goal

pub returns-in-Ok : goal.returns-in-Ok
returns-in-Ok g c = record {
  tells = IfOk-weaker c.recover_store.result _ _ (λ status told. inl (c.in-Ok.geometry, c.in-Ok.ensures.taken, told)) c.recover_store.ensures.tells;
}
