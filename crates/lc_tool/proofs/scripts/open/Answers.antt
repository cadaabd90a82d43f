use Rattle.std.proofs.Common.{◌∙◌, sym}
use Rattle.lc_tool.proofs.Beginning.{done_first, done_tells, faulted_tells, keeps_all, no_memory_tells, refused_tells}
use Rattle.lc_tool.proofs.scripts.open.Goals as goal

pub returns-in-Done-clause-refused : goal.returns-in-Done-clause-refused
returns-in-Done-clause-refused g c =
    done_first g.D.Area c.args.world.now c.recover-recovered.new.world (g.W.Write.contents c.args.writer.now) (g.W.Write.contents c.args.writer.now) c.in-Ok.reply c.in-Ok.ensures.follows c.in-Ok.ensures.refused
    (sym c.in-Done.is ∙ c.of.ensures)

pub returns-in-Done-clause-tells : goal.returns-in-Done-clause-tells
returns-in-Done-clause-tells g c =
    done_tells g.D.Area c.args.world.now c.recover-recovered.new.world (g.W.Write.contents c.args.writer.now) (g.W.Write.contents c.args.writer.now) c.in-Ok.reply c.in-Ok.ensures.down
    (sym c.in-Done.is ∙ c.of.ensures) (keeps_all (g.W.Write.contents c.args.writer.now))

pub returns-in_default-clause-tells : goal.returns-in_default-clause-tells
returns-in_default-clause-tells g c =
    let shown = c.in_ok-no_memory.ensures.shown in
    no_memory_tells g.D.Area c.args.world.now c.recover-recovered.new.world (g.W.Write.contents c.args.writer.now) (g.W.Write.contents c.no_memory.new.writer) c.in_ok-no_memory.field-0 shown.0 shown.1
    c.in_default.ensures.still

pub returns-in-Refused-clause-tells : goal.returns-in-Refused-clause-tells
returns-in-Refused-clause-tells g c =
    let shown = c.in_ok-printed-in-Refused.ensures.shown in
    refused_tells g.D.Area c.args.world.now c.recover-recovered.new.world (g.W.Write.contents c.args.writer.now) (g.W.Write.contents c.printed.new.writer) c.in-Ok.reply c.in-Ok.ensures.down
    c.in_ok-printed-in-Refused.field-0 (sym c.in-Refused.is ∙ c.of.ensures) shown.0 shown.1

pub returns-clause-tells : goal.returns-clause-tells
returns-clause-tells g c =
    let shown = c.in_ok-printed-in-Faulted.ensures.shown in
    faulted_tells g.D.Area c.args.world.now c.recover-recovered.new.world (g.W.Write.contents c.args.writer.now) (g.W.Write.contents c.printed-in-Faulted.new.writer) c.in-Ok.reply c.in-Ok.ensures.down
    c.in_ok-printed-in-Faulted.field-0 (sym c.in-Faulted.is ∙ c.of.ensures) shown.0 shown.1
