use Rattle.std.proofs.lemmas.Result.{IfOk-weaker}
use Rattle.lc_tool.proofs.ScriptLemmas.{some_weaker}
use Rattle.lc_tool.proofs.Manners.{follows_recovered, runs_recovered, tells_recovered, told_recovered}
use Rattle.lc_tool.proofs.scripts.run_read.Goals as goal

pub returns-then-manner-clause-runs : goal.returns-then-manner-clause-runs
returns-then-manner-clause-runs g c =
    IfOk-weaker c.follow_script.result _ _ (λ status runs.
    some_weaker (g.R.Read.remaining c.args.reader.now) _ _ (λ script follows.
    follows_recovered g.D.Area c.args.world.now c.args.manner script (g.W.Write.contents c.args.writer.now) (g.W.Write.contents c.follow_script.new.writer) status c.if-manner.true follows) runs) c.follow_script.ensures.runs

pub returns-then-manner-clause-tells : goal.returns-then-manner-clause-tells
returns-then-manner-clause-tells g c =
    IfOk-weaker c.follow_script.result _ _ (λ status tells.
    some_weaker (g.R.Read.remaining c.args.reader.now) _ _ (λ script told h at fits.
    tells_recovered h at c.args.manner script (g.W.Write.contents c.args.writer.now) (g.W.Write.contents c.follow_script.new.writer) status c.if-manner.true (told h at fits)) tells) c.follow_script.ensures.tells

pub returns-else-manner-clause-runs : goal.returns-else-manner-clause-runs
returns-else-manner-clause-runs g c =
    IfOk-weaker c.run_whole.result _ _ (λ status runs.
    some_weaker (g.R.Read.remaining c.args.reader.now) _ _ (λ script all.
    runs_recovered g.D.Area c.args.world.now c.args.manner script (g.W.Write.contents c.args.writer.now) (g.W.Write.contents c.run_whole.new.writer) status c.if-manner.false all) runs) c.run_whole.ensures.runs

pub returns-else-manner-clause-tells : goal.returns-else-manner-clause-tells
returns-else-manner-clause-tells g c =
    IfOk-weaker c.run_whole.result _ _ (λ status tells.
    some_weaker (g.R.Read.remaining c.args.reader.now) _ _ (λ script told h at fits.
    told_recovered h at c.args.manner script (g.W.Write.contents c.args.writer.now) (g.W.Write.contents c.run_whole.new.writer) status c.if-manner.false (told h at fits)) tells) c.run_whole.ensures.tells
