use Rattle.std.proofs.Common.{ℕ, Option, Some, subst}
use Rattle.std.proofs.lemmas.Result.{IfOk-weaker}
use Rattle.lc_core.specs.Lives.{FitsLife, Life}
use Rattle.lc_tool.specs.Outcome.{OpensStore, RefusesFirst}
use Rattle.lc_tool.specs.Script.{given_as}
use Rattle.lc_tool.specs.Tells.{TellsOpening}
use Rattle.lc_tool.proofs.Beginning.{down_at, never_refuses, never_wrong, recovered_runs, recovered_tells, some_all, stopped_refuses, stopped_runs, stopped_tells, wrong_tells}
use Rattle.lc_tool.proofs.ScriptLemmas.{some_weaker}
use Rattle.lc_tool.proofs.scripts.run_told.Goals as goal

pub returns-in-Some-clause-runs : goal.returns-in-Some-clause-runs
returns-in-Some-clause-runs g c =
    some_all (g.R.Read.remaining c.args.reader.now) _ (λ script.
    stopped_runs g.D.Area c.args.geometry c.args.areas.items c.in-Ok.world (g.W.Write.contents c.args.writer.now) (g.W.Write.contents c.open.new.writer) c.in-Some.status c.open.new.world (given_as c.args.manner script) c.in-Ok.ensures.fits
    (subst (λ (o : Option ℕ). OpensStore g.D.Area c.in-Ok.world (g.W.Write.contents c.args.writer.now) (g.W.Write.contents c.open.new.writer) o c.open.new.world) c.in-Some.is c.in_ok-status.ensures.opens))

pub returns-in-Some-clause-refused : goal.returns-in-Some-clause-refused
returns-in-Some-clause-refused g c =
    stopped_refuses g.D.Area c.args.geometry c.args.areas.items c.in-Ok.world (g.W.Write.contents c.args.writer.now) (g.W.Write.contents c.open.new.writer) c.in-Some.status c.in-Ok.ensures.down
    (subst (λ (o : Option ℕ). RefusesFirst g.D.Area c.in-Ok.world (g.W.Write.contents c.args.writer.now) (g.W.Write.contents c.open.new.writer) o) c.in-Some.is c.in_ok-status.ensures.refused)

pub returns-in-Some-clause-tells : goal.returns-in-Some-clause-tells
returns-in-Some-clause-tells g c =
    let held = g.W.Write.contents c.args.writer.now in
    let holds = g.W.Write.contents c.open.new.writer in
    let opens = c.in_ok-status.ensures.tells c.args.geometry (down_at g.D.Area c.args.geometry c.in-Ok.world.phase c.args.areas.items c.in-Ok.ensures.down) in
    some_all (g.R.Read.remaining c.args.reader.now) _ (λ script.
    stopped_tells c.args.geometry held holds c.in-Some.status (given_as c.args.manner script) (subst (λ (o : Option ℕ). TellsOpening c.args.geometry held holds o opens.0) c.in-Some.is opens.2))

pub returns-in-Err-default-BadGeometry-clause-tells : goal.returns-in-Err-default-BadGeometry-clause-tells
returns-in-Err-default-BadGeometry-clause-tells g c =
    let status = c.in_ok-bad_geometry-in-Err-default-BadGeometry.field-0 in
    let shown = c.in_ok-bad_geometry-in-Err-default-BadGeometry.ensures.shown in
    some_all (g.R.Read.remaining c.args.reader.now) _ (λ script.
    wrong_tells c.args.geometry (g.W.Write.contents c.args.writer.now) (g.W.Write.contents c.bad_geometry.new.writer) status (given_as c.args.manner script) _ shown.0 shown.1)

pub returns-clause-runs : goal.returns-clause-runs
returns-clause-runs g c =
    let held = g.W.Write.contents c.args.writer.now in
    let mid = g.W.Write.contents c.open.new.writer in
    let opens = subst (λ (o : Option ℕ). OpensStore g.D.Area c.in-Ok.world held mid o c.open.new.world) c.in_default.is c.in_ok-status.ensures.opens in
    IfOk-weaker c.run_recovered.result _ _ (λ status runs.
    some_weaker (g.R.Read.remaining c.args.reader.now) _ _ (λ script.
    recovered_runs g.D.Area c.args.geometry c.args.areas.items c.in-Ok.world held (g.W.Write.contents c.run_recovered.new.writer) status mid c.open.new.world (given_as c.args.manner script) c.in-Ok.ensures.fits opens) runs) c.run_recovered.ensures.runs

pub returns-clause-refused : goal.returns-clause-refused
returns-clause-refused g c =
    let held = g.W.Write.contents c.args.writer.now in
    let mid = g.W.Write.contents c.open.new.writer in
    let first = subst (λ (o : Option ℕ). RefusesFirst g.D.Area c.in-Ok.world held mid o) c.in_default.is c.in_ok-status.ensures.refused in
    IfOk-weaker c.run_recovered.result _ _ (λ status runs.
    never_refuses g.D.Area c.args.geometry c.args.areas.items c.in-Ok.world held (g.W.Write.contents c.run_recovered.new.writer) status mid c.in-Ok.ensures.down first) c.run_recovered.ensures.runs

pub returns-clause-wrong : goal.returns-clause-wrong
returns-clause-wrong g c =
    IfOk-weaker c.run_recovered.result _ _ (λ status runs.
    never_wrong g.D.Area c.args.geometry c.args.areas.items c.in-Ok.world (g.W.Write.contents c.args.writer.now) (g.W.Write.contents c.run_recovered.new.writer) status c.in-Ok.ensures.right) c.run_recovered.ensures.runs

pub returns-clause-tells : goal.returns-clause-tells
returns-clause-tells g c =
    let held = g.W.Write.contents c.args.writer.now in
    let mid = g.W.Write.contents c.open.new.writer in
    let opens = c.in_ok-status.ensures.tells c.args.geometry (down_at g.D.Area c.args.geometry c.in-Ok.world.phase c.args.areas.items c.in-Ok.ensures.down) in
    let up = subst (λ (o : Option ℕ). TellsOpening c.args.geometry held mid o opens.0) c.in_default.is opens.2 in
    let fits = subst (λ (at : Option Life). FitsLife g.D.Area c.args.geometry at c.open.new.world.phase) up.1 opens.1 in
    IfOk-weaker c.run_recovered.result _ _ (λ status tells.
    some_weaker (g.R.Read.remaining c.args.reader.now) _ _ (λ script told.
    recovered_tells c.args.geometry held (g.W.Write.contents c.run_recovered.new.writer) status (given_as c.args.manner script) mid up.0 up.2 up.3 (told c.args.geometry (Some up.0) fits)) tells) c.run_recovered.ensures.tells
