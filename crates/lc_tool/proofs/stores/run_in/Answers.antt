use Rattle.lc_tool.proofs.Beginning.{not_opened_tells, some_all}
use Rattle.lc_tool.specs.Script.{given_as}
use Rattle.lc_tool.proofs.stores.run_in.Goals as goal

pub returns-in_ok-not_opened-in-Err : goal.returns-in_ok-not_opened-in-Err
returns-in_ok-not_opened-in-Err g c = record {
  tells =
      let status = c.in_ok-not_opened-in-Err.field-0 in
      let shown = c.in_ok-not_opened-in-Err.ensures.shown in
      some_all (g.I.Read.remaining c.args.reader.now) _ (λ script.
      not_opened_tells c.args.geometry (g.W.Write.contents c.args.writer.now) (g.W.Write.contents c.not_opened.new.writer) status (given_as c.args.manner script) shown);
}
