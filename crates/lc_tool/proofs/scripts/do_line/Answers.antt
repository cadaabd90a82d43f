use Rattle.std.proofs.Common.{◌≡◌, ◌∙◌, [], inl, inr, refl, sym}
use Rattle.lc_text.specs.Line.{line_of}
use Rattle.lc_text.specs.declared.command.Line.TheVariants.{Skipped, Command as Commanded, NotUnderstood}
use Rattle.lc_text.specs.Text.{no_memory_text, not_understood_text}
use Rattle.lc_tool.proofs.ScriptLemmas.{adds_nothing}
use Rattle.lc_tool.proofs.scripts.do_line.Goals as goal

pub returns-in-Command-clause-leaves : goal.returns-in-Command-clause-leaves
returns-in-Command-clause-leaves g c =
    let read : line_of c.args.line.now ≡ Commanded c.in-Command.command = sym c.in-Ok.ensures.value ∙ c.in-Command.is in
    c.do_command.ensures.leaves c.args.line.now c.args.number read

pub returns-in-Command-clause-tells : goal.returns-in-Command-clause-tells
returns-in-Command-clause-tells g c =
    let read : line_of c.args.line.now ≡ Commanded c.in-Command.command = sym c.in-Ok.ensures.value ∙ c.in-Command.is in
    c.do_command.ensures.tells c.args.line.now c.args.number read

pub returns-in_default-clause-tells : goal.returns-in_default-clause-tells
returns-in_default-clause-tells g c = λ h at fits.
    let shown = c.in_ok-no_memory.ensures.shown in
    (at, fits, (no_memory_text, inl ((refl, shown.0), refl), shown.1))

pub returns-in-Skipped-clause-tells : goal.returns-in-Skipped-clause-tells
returns-in-Skipped-clause-tells g c = λ h at fits.
    let read : line_of c.args.line.now ≡ Skipped = sym c.in-Ok.ensures.value ∙ c.in-Skipped.is in
    (at, fits, ([], inl (read, refl, refl, refl), adds_nothing (g.W.Write.contents c.args.writer.now)))

pub returns-in_ok-write_not_understood-in-NotUnderstood-clause-tells : goal.returns-in_ok-write_not_understood-in-NotUnderstood-clause-tells
returns-in_ok-write_not_understood-in-NotUnderstood-clause-tells g c = λ h at fits.
    let read : line_of c.args.line.now ≡ NotUnderstood = sym c.in-Ok.ensures.value ∙ c.in-NotUnderstood.is in
    (at, fits, (not_understood_text c.args.number, inr (inl (read, refl, refl, refl)), c.in_ok-write_not_understood-in-NotUnderstood.ensures))
