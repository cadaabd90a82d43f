use Rattle.std.proofs.Common.{[], ◌++◌, inl, inr, refl, sym}
use Rattle.std.proofs.KnownBytes.{Appends-trans}
use Rattle.std.proofs.lemmas.Result.{IfOk-weaker}
use Rattle.lc_tool.specs.Script.{front_of}
use Rattle.lc_tool.proofs.ScriptLemmas.{adds_nothing, fronts, skips_line, skips_so}
use Rattle.lc_tool.proofs.scripts.number_line.Goals as goal

pub returns-then-is_skipped-clause-leaves : goal.returns-then-is_skipped-clause-leaves
returns-then-is_skipped-clause-leaves g c =
    skips_line g.D.Area (front_of c.args.numbered) c.args.world.now c.args.world.now c.args.line.now c.args.number (g.W.Write.contents c.args.writer.now) (g.W.Write.contents c.args.writer.now)
    (g.W.Write.contents c.args.writer.now) (sym c.if-is_skipped.ensures)

pub returns-then-is_skipped-clause-tells : goal.returns-then-is_skipped-clause-tells
returns-then-is_skipped-clause-tells g c = λ h at fits.
    (at, fits, ([], inl (skips_so c.args.line.now (sym c.if-is_skipped.ensures), refl, refl, refl), adds_nothing (g.W.Write.contents c.args.writer.now)))

pub returns-clause-leaves : goal.returns-clause-leaves
returns-clause-leaves g c =
    IfOk-weaker c.do_line.result _ _ (λ outcome leaves.
    fronts g.D.Area (front_of c.args.numbered) c.args.world.now c.do_line.new.world c.args.line.now c.args.number (g.W.Write.contents c.args.writer.now) (g.W.Write.contents c.show_number.new.writer)
    (g.W.Write.contents c.do_line.new.writer) outcome (sym c.if-is_skipped.ensures) c.in_ok-show_number.ensures.shown leaves) c.do_line.ensures.leaves

pub returns-clause-tells : goal.returns-clause-tells
returns-clause-tells g c =
    IfOk-weaker c.do_line.result _ _ (λ outcome tells h at fits.
    let told = tells h at fits in (
      told.0,
      told.1,
      (
        front_of c.args.numbered c.args.number ++ told.2.0,
        inr (sym c.if-is_skipped.ensures, (told.2.0, refl, told.2.1)),
        Appends-trans (g.W.Write.contents c.args.writer.now) (g.W.Write.contents c.show_number.new.writer) (g.W.Write.contents c.do_line.new.writer) (front_of c.args.numbered c.args.number) told.2.0
            c.in_ok-show_number.ensures.shown told.2.2,
      ),
    )) c.do_line.ensures.tells
