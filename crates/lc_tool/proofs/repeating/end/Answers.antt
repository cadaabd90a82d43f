use Rattle.std.proofs.lemmas.Result.{IfOk-weaker, on_err_weaker}
use Rattle.lc_tool.proofs.EndCalls.{end_anyhow, end_down, end_follows, end_wants}
use Rattle.lc_tool.proofs.repeating.end.Goals as goal

pub returns-clause-follows : goal.returns-clause-follows
returns-clause-follows g c =
    IfOk-weaker c.end_reply.result _ _ (λ reply is. end_follows g.D.Area c.args.node c.args.thread c.args.world.now c.end.new.self reply c.end.result c.end.ensures is) c.end_reply.ensures.reply

pub returns-clause-anyhow : goal.returns-clause-anyhow
returns-clause-anyhow g c =
    IfOk-weaker c.end_reply.result _ _ (λ reply is. end_anyhow g.D.Area c.args.node c.args.thread c.args.world.now c.end.new.self reply c.end.result c.end.ensures is) c.end_reply.ensures.reply

pub returns-clause-down : goal.returns-clause-down
returns-clause-down g c =
    IfOk-weaker c.end_reply.result _ _ (λ reply is. end_down g.D.Area c.args.node c.args.thread c.args.world.now c.end.new.self reply c.end.result c.end.ensures is) c.end_reply.ensures.reply

pub returns-clause-memory : goal.returns-clause-memory
returns-clause-memory g c =
    on_err_weaker c.end_reply.result (λ none m s x fits. (end_wants g.D.Area c.args.node c.args.thread c.args.world.now c.end.new.self c.end.result c.end.ensures none).asks m s x fits) c.end_reply.ensures.memory

pub returns-clause-still : goal.returns-clause-still
returns-clause-still g c =
    on_err_weaker c.end_reply.result (λ none. (end_wants g.D.Area c.args.node c.args.thread c.args.world.now c.end.new.self c.end.result c.end.ensures none).lives) c.end_reply.ensures.memory
