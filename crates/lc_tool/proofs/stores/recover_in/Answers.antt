use Rattle.std.proofs.lemmas.Result.{IfOk-weaker}
use Rattle.lc_tool.proofs.Beginning.{not_opened_recovers}
use Rattle.lc_tool.proofs.stores.recover_in.Goals as goal

pub returns-after-matches : goal.returns-after-matches
returns-after-matches g c = record {
  tells =
      IfOk-weaker c.not_opened.result _ _ (λ status shown.
      not_opened_recovers c.args.geometry (g.W.Write.contents c.args.writer.now) (g.W.Write.contents c.not_opened.new.writer) status shown) c.not_opened.ensures.shown;
}
