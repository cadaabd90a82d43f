use Rattle.std.proofs.Common.{ℕ, List, arith, refl, inl, inr, subst, ◌∙◌, false}
use Rattle.lc_text.specs.Lines.{script_lines}
use Rattle.lc_text.specs.Text.{no_memory_text, too_long_text}
use Rattle.lc_tool.specs.Outcome.{RunsLines}
use Rattle.lc_tool.specs.Script.{front_of}
use Rattle.lc_look.specs.Printed.{Adds}
use Rattle.lc_tool.specs.Tells.{TellsLines}
use Rattle.lc_tool.proofs.Beginning.{some_all}
use Rattle.lc_tool.proofs.ScriptLemmas.{long_script, some_weaker, whole_script}
use Rattle.lc_tool.proofs.scripts.run_whole.Goals as goal

pub returns-in-Err-NoMemory-clause-runs : goal.returns-in-Err-NoMemory-clause-runs
returns-in-Err-NoMemory-clause-runs g c =
    let shown = c.in_ok-no_memory-in-Err-NoMemory.ensures.shown in
    some_all (g.R.Read.remaining c.args.reader.now) _ (λ script m s x fits. (no_memory_text, inl (refl, shown.0), shown.1))

pub returns-in-Err-NoMemory-clause-tells : goal.returns-in-Err-NoMemory-clause-tells
returns-in-Err-NoMemory-clause-tells g c =
    let shown = c.in_ok-no_memory-in-Err-NoMemory.ensures.shown in
    some_all (g.R.Read.remaining c.args.reader.now) _ (λ script h at fits. (no_memory_text, inl (refl, shown.0), shown.1))

pub returns-then-len-gt-LONGEST-clause-runs : goal.returns-then-len-gt-LONGEST-clause-runs
returns-then-len-gt-LONGEST-clause-runs g c =
    let shown = c.in_ok-too_long.ensures.shown in
    some_weaker (g.R.Read.remaining c.args.reader.now) _ _ (λ all read m s x fits.
    let long = long_script all c.in-Ok.script.items read (omega (arith, c.if-len-gt-LONGEST.true, c.len.ensures)) in
    (too_long_text, inr (rw long (refl, shown.0)), shown.1)) c.in-Ok.ensures.script

pub returns-then-len-gt-LONGEST-clause-tells : goal.returns-then-len-gt-LONGEST-clause-tells
returns-then-len-gt-LONGEST-clause-tells g c =
    let shown = c.in_ok-too_long.ensures.shown in
    some_weaker (g.R.Read.remaining c.args.reader.now) _ _ (λ all read h at fits.
    let long = long_script all c.in-Ok.script.items read (omega (arith, c.if-len-gt-LONGEST.true, c.len.ensures)) in
    (too_long_text, inr (rw long (refl, shown.0)), shown.1)) c.in-Ok.ensures.script

pub returns-clause-runs : goal.returns-clause-runs
returns-clause-runs g c =
    let held = g.W.Write.contents c.args.writer.now in
    let holds = g.W.Write.contents c.run_lines.new.writer in
    let status = c.in_ok-run_lines.field-0 in
    let lines = c.in_ok-run_lines.ensures.runs in
    some_weaker (g.R.Read.remaining c.args.reader.now) _ _ (λ all read m s x fits.
    let whole = whole_script all c.in-Ok.script.items read (omega (arith, c.if-len-gt-LONGEST.false, c.len.ensures)) in
    let run = subst (λ (l : List ℕ). RunsLines g.D.Area (front_of c.args.numbered) c.args.world.now l held holds status) (c.deref.ensures.value ∙ whole.1) lines m s x fits in
    (run.0, inr (rw whole.0 run.1), run.2)) c.in-Ok.ensures.script

pub returns-clause-tells : goal.returns-clause-tells
returns-clause-tells g c =
    let held = g.W.Write.contents c.args.writer.now in
    let holds = g.W.Write.contents c.run_lines.new.writer in
    let status = c.in_ok-run_lines.field-0 in
    let lines = c.in_ok-run_lines.ensures.tells in
    some_weaker (g.R.Read.remaining c.args.reader.now) _ _ (λ all read h at fits.
    let whole = whole_script all c.in-Ok.script.items read (omega (arith, c.if-len-gt-LONGEST.false, c.len.ensures)) in
    let run = subst (λ (l : List ℕ). Adds (TellsLines (front_of c.args.numbered) h at 1 false (script_lines l)) held holds status) (c.deref.ensures.value ∙ whole.1) (lines h at fits) in
    (run.0, inr (rw whole.0 run.1), run.2)) c.in-Ok.ensures.script
