use Rattle.std.proofs.lemmas.Result.{IfOk-weaker}
use Rattle.lc_core.proofs.PageSeen.{page_refused_at, page_shown_at}
use Rattle.lc_tool.proofs.Shows.{page_refused, page_shows, page_tells, refused_tells}
use Rattle.lc_tool.proofs.commands.show_page.Goals as goal

pub returns-in-Err-clause-done : goal.returns-in-Err-clause-done
returns-in-Err-clause-done g c =
    IfOk-weaker c.show.result _ _ (λ verdict shown.
    page_refused g.D.Area c.args.world.now c.args.node c.args.segment c.args.page (g.W.Write.contents c.args.writer.now) (g.W.Write.contents c.show.new.writer) verdict c.in-Err.refusal
    (page_refused_at g.D.Area c.args.world.now c.args.node c.args.segment c.args.page c.in-Err.refusal c.in-Err.ensures.refused) shown.0 shown.1) c.show.ensures.shown

pub returns-in-Err-clause-tells : goal.returns-in-Err-clause-tells
returns-in-Err-clause-tells g c =
    IfOk-weaker c.show.result _ _ (λ verdict shown.
    refused_tells g.D.Area c.args.world.now c.args.node c.args.segment c.args.page (g.W.Write.contents c.args.writer.now) (g.W.Write.contents c.show.new.writer) verdict c.in-Err.refusal
    (page_refused_at g.D.Area c.args.world.now c.args.node c.args.segment c.args.page c.in-Err.refusal c.in-Err.ensures.refused) shown.0 shown.1) c.show.ensures.shown

pub returns-in_ok-write_page-in-Ok-clause-done : goal.returns-in_ok-write_page-in-Ok-clause-done
returns-in_ok-write_page-in-Ok-clause-done g c =
    page_shows g.D.Area c.args.world.now c.args.node c.args.segment c.args.page c.in-Ok.bytes.now
    (page_shown_at g.D.Area c.args.world.now c.args.node c.args.segment c.args.page c.in-Ok.ensures.shown) (g.W.Write.contents c.args.writer.now) (g.W.Write.contents c.write_page.new.writer)
    c.in_ok-write_page-in-Ok.ensures c.in-Ok.ensures.shows

pub returns-in_ok-write_page-in-Ok-clause-tells : goal.returns-in_ok-write_page-in-Ok-clause-tells
returns-in_ok-write_page-in-Ok-clause-tells g c =
    page_tells g.D.Area c.args.world.now c.args.node c.args.segment c.args.page c.in-Ok.bytes.now
    (page_shown_at g.D.Area c.args.world.now c.args.node c.args.segment c.args.page c.in-Ok.ensures.shown) (g.W.Write.contents c.args.writer.now) (g.W.Write.contents c.write_page.new.writer)
    c.in_ok-write_page-in-Ok.ensures c.in-Ok.ensures.lives
