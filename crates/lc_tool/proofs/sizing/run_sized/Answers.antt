use Rattle.std.proofs.Common.{inl}
use Rattle.std.proofs.lemmas.Option.{IfSome_then}
use Rattle.std.proofs.lemmas.Result.{IfOk-weaker}
use Rattle.lc_tool.proofs.sizing.run_sized.Goals as goal

pub returns-in-Ok : goal.returns-in-Ok
returns-in-Ok g c = record {
  tells =
      IfOk-weaker c.run_store.result _ _ (λ status told.
      IfSome_then (g.I.Read.remaining c.args.reader.now) told (λ script adds. inl (c.in-Ok.geometry, c.in-Ok.ensures.taken, adds))) c.run_store.ensures.tells;
}
