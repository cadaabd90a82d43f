use Rattle.std.proofs.lemmas.Option.{IfSome_then}
use Rattle.std.proofs.lemmas.Result.{IfOk-weaker}
use Rattle.lc_tool.proofs.Beginning.{some_all}
use Rattle.lc_tool.proofs.NewStore.{new_runs, none_runs}
use Rattle.lc_tool.specs.Script.{given_as}
use Rattle.lc_tool.proofs.answering.run_new.Goals as goal

pub returns-in-Ok : goal.returns-in-Ok
returns-in-Ok g c = record {
  runs =
      IfOk-weaker c.run_told.result _ _ (λ status told.
      IfSome_then (g.I.Read.remaining c.args.reader.now) told (λ script runs.
      new_runs c.args.geometry c.in-Ok.areas.items (given_as c.args.manner script) (g.W.Write.contents c.args.writer.now) (g.W.Write.contents c.run_told.new.writer) status
      c.in-Ok.ensures.lengths c.in-Ok.ensures.zeros runs)) c.run_told.ensures.runs;
}

pub returns-in_ok-no_memory-in-Err : goal.returns-in_ok-no_memory-in-Err
returns-in_ok-no_memory-in-Err g c = record {
  runs =
      let status = c.in_ok-no_memory-in-Err.field-0 in
      let shown = c.in_ok-no_memory-in-Err.ensures.shown in
      some_all (g.I.Read.remaining c.args.reader.now) _ (λ script.
      none_runs c.args.geometry (given_as c.args.manner script) (g.W.Write.contents c.args.writer.now) (g.W.Write.contents c.no_memory.new.writer) status shown);
}
