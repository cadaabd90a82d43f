use Rattle.std.proofs.Common.{false}
use Rattle.std.proofs.lemmas.Result.{IfOk-weaker}
use Rattle.lc_text.specs.Text.{no_memory_text}
use Rattle.lc_tool.specs.Following.{lines_followed}
use Rattle.lc_tool.specs.Script.{front_of}
use Rattle.lc_tool.proofs.Follows.{some_by, tells_want, wants}
use Rattle.lc_tool.proofs.following.follow_script.Goals as goal

pub returns-in_ok-no_memory-in-Err-clause-runs : goal.returns-in_ok-no_memory-in-Err-clause-runs
returns-in_ok-no_memory-in-Err-clause-runs g c =
    let status = c.in_ok-no_memory-in-Err.field-0 in
    let shown = c.in_ok-no_memory-in-Err.ensures.shown in
    some_by (g.R.Read.remaining c.args.reader.now) _ (λ script is m s x fits.
    (no_memory_text, wants (front_of c.args.numbered) 1 false m s x (lines_followed script) status shown.0, shown.1))

pub returns-in_ok-no_memory-in-Err-clause-tells : goal.returns-in_ok-no_memory-in-Err-clause-tells
returns-in_ok-no_memory-in-Err-clause-tells g c =
    let status = c.in_ok-no_memory-in-Err.field-0 in
    let shown = c.in_ok-no_memory-in-Err.ensures.shown in
    some_by (g.R.Read.remaining c.args.reader.now) _ (λ script is h at fits.
    (no_memory_text, tells_want (front_of c.args.numbered) 1 false h at (lines_followed script) status shown.0, shown.1))

pub returns-in-Ok-clause-runs : goal.returns-in-Ok-clause-runs
returns-in-Ok-clause-runs g c = IfOk-weaker c.follow_lines.result _ _ (λ status follows. rw c.in-Ok.ensures.left at follows) c.follow_lines.ensures.runs

pub returns-in-Ok-clause-tells : goal.returns-in-Ok-clause-tells
returns-in-Ok-clause-tells g c = IfOk-weaker c.follow_lines.result _ _ (λ status tells. rw c.in-Ok.ensures.left at tells) c.follow_lines.ensures.tells
