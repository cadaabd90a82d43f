use Rattle.lc_tool.specs.Script.{front_of}
use Rattle.lc_tool.proofs.ScriptLemmas.{fronted_kept, then_keeps}
use Rattle.lc_tool.proofs.scripts.run_line.Goals as goal

pub returns-clause-leaves : goal.returns-clause-leaves
returns-clause-leaves g c =
    fronted_kept g.D.Area (front_of c.args.numbered) c.args.world.now c.number_line.new.world c.args.line.now c.args.number (g.W.Write.contents c.args.writer.now) (g.W.Write.contents c.number_line.new.writer)
    (g.W.Write.contents c.flush.new.self) c.in_ok-outcome.outcome c.in_ok-flush.ensures.bytes c.in_ok-outcome.ensures.leaves

pub returns-clause-tells : goal.returns-clause-tells
returns-clause-tells g c = λ h at fits.
    let told = c.in_ok-outcome.ensures.tells h at fits in (
      told.0,
      told.1,
      (told.2.0, told.2.1, then_keeps (g.W.Write.contents c.args.writer.now) (g.W.Write.contents c.number_line.new.writer) (g.W.Write.contents c.flush.new.self) told.2.0 told.2.2 c.in_ok-flush.ensures.bytes),
    )
