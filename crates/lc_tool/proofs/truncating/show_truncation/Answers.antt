use Rattle.std.proofs.lemmas.Result.{IfOk-weaker}
use Rattle.lc_tool.proofs.Truncations.{performs_truncation, truncation_tells}
use Rattle.lc_tool.proofs.truncating.show_truncation.Goals as goal

pub returns-clause-done : goal.returns-clause-done
returns-clause-done g c =
    IfOk-weaker c.show_round.result _ _ (λ verdict shown.
    performs_truncation g.D.Area c.args.world.now c.truncate-reply.new.self c.args.node c.truncate-reply.result c.round.result (g.W.Write.contents c.args.writer.now) (g.W.Write.contents c.show_round.new.writer) verdict
    c.truncate-reply.ensures shown.0 shown.1 c.round.ensures.shows) c.show_round.ensures.shown

pub returns-clause-tells : goal.returns-clause-tells
returns-clause-tells g c =
    IfOk-weaker c.show_round.result _ _ (λ verdict shown.
    truncation_tells g.D.Area c.args.world.now c.truncate-reply.new.self c.args.node c.truncate-reply.result c.round.result (g.W.Write.contents c.args.writer.now) (g.W.Write.contents c.show_round.new.writer) verdict
    c.truncate-reply.ensures shown.0 shown.1 c.round.ensures.stands) c.show_round.ensures.shown
