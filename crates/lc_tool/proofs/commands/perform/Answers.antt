use Rattle.std.proofs.lemmas.Result.{IfOk-weaker}
use Rattle.lc_text.specs.declared.command.Command.TheVariants.{Step as Asks, End, Flush, Truncate, Recover, Log, Inspect, Show}
use Rattle.lc_tool.proofs.Beside.{asked_tells, end_tells, flush_tells, recover_tells, tells_as}
use Rattle.lc_tool.proofs.Performing.{step_performs}
use Rattle.lc_core.specs.Lives.{Told}
use Rattle.lc_core.specs.World.{FitsWorld}
use Rattle.lc_tool.proofs.commands.perform.Goals as goal

pub returns-in_err-step-in-Step-clause-asks : goal.returns-in_err-step-in-Step-clause-asks
returns-in_err-step-in-Step-clause-asks g c = λ want m s x fits. rw c.in-Step.is (c.in_err-step-in-Step.ensures.asks m s x fits)

pub returns-in_ok-show-in-Step-clause-tells : goal.returns-in_ok-show-in-Step-clause-tells
returns-in_ok-show-in-Step-clause-tells g c =
    let told : Told g.D.Area c.args.world.now.phase c.in-Step.event c.in_ok-step-in-Step.field-0 c.step.new.self.phase = record { anyhow = c.in_ok-step-in-Step.ensures.anyhow; at_once = c.in_ok-step-in-Step.ensures.at_once; stops = c.in_ok-step-in-Step.ensures.stops } in
    let verdict = c.in_ok-show-in-Step.field-0 in
    let shown = c.in_ok-show-in-Step.ensures.shown in
    tells_as g.D.Area c.args.world.now c.step.new.self (g.W.Write.contents c.args.writer.now) (g.W.Write.contents c.show.new.writer) verdict c.args.command.now (Asks c.in-Step.event) c.in-Step.is
    (asked_tells g.D.Area c.args.world.now c.step.new.self (g.W.Write.contents c.args.writer.now) (g.W.Write.contents c.show.new.writer) verdict c.in-Step.event c.in_ok-step-in-Step.field-0
    c.in_ok-step-in-Step.ensures.unknown told shown.0 shown.1)

pub returns-in_ok-show-in-Step-clause-done : goal.returns-in_ok-show-in-Step-clause-done
returns-in_ok-show-in-Step-clause-done g c =
    let verdict = c.in_ok-show-in-Step.field-0 in
    let shown = c.in_ok-show-in-Step.ensures.shown in
    (λ m s x fits.
    rw c.in-Step.is
    (step_performs g.D.Area (FitsWorld g.D.Area) c.args.world.now c.step.new.self c.in-Step.event c.in_ok-step-in-Step.field-0 (g.W.Write.contents c.args.writer.now) (g.W.Write.contents c.show.new.writer) verdict
    c.in_ok-step-in-Step.ensures.follows shown.0 shown.1 m s x fits))

pub returns-in_ok-show_end-in-End-clause-tells : goal.returns-in_ok-show_end-in-End-clause-tells
returns-in_ok-show_end-in-End-clause-tells g c =
    let verdict = c.in_ok-show_end-in-End.field-0 in
    let shown = c.in_ok-show_end-in-End.ensures.shown in
    tells_as g.D.Area c.args.world.now c.end.new.world (g.W.Write.contents c.args.writer.now) (g.W.Write.contents c.show_end.new.writer) verdict c.args.command.now (End c.in-End.node c.in-End.thread) c.in-End.is
    (end_tells g.D.Area c.args.world.now c.end.new.world (g.W.Write.contents c.args.writer.now) (g.W.Write.contents c.show_end.new.writer) verdict c.in-End.node c.in-End.thread c.in_ok-end-in-End.field-0
    c.in_ok-end-in-End.ensures.anyhow c.in_ok-end-in-End.ensures.down shown.0 shown.1)

pub returns-in_ok-show-in-Flush-clause-tells : goal.returns-in_ok-show-in-Flush-clause-tells
returns-in_ok-show-in-Flush-clause-tells g c =
    let verdict = c.in_ok-show-in-Flush.field-0 in
    let shown = c.in_ok-show-in-Flush.ensures.shown in
    tells_as g.D.Area c.args.world.now c.flush.new.world (g.W.Write.contents c.args.writer.now) (g.W.Write.contents c.show-in-Flush.new.writer) verdict c.args.command.now (Flush c.in-Flush.node) c.in-Flush.is
    (flush_tells g.D.Area c.args.world.now c.flush.new.world (g.W.Write.contents c.args.writer.now) (g.W.Write.contents c.show-in-Flush.new.writer) verdict c.in-Flush.node c.flush.result
    c.flush.ensures.anyhow c.flush.ensures.down shown.0 shown.1)

pub returns-in_ok-show-in-Recover-clause-tells : goal.returns-in_ok-show-in-Recover-clause-tells
returns-in_ok-show-in-Recover-clause-tells g c =
    let verdict = c.in_ok-show-in-Recover.field-0 in
    let shown = c.in_ok-show-in-Recover.ensures.shown in
    tells_as g.D.Area c.args.world.now c.recover.new.world (g.W.Write.contents c.args.writer.now) (g.W.Write.contents c.show-in-Recover.new.writer) verdict c.args.command.now Recover c.in-Recover.is
    (recover_tells g.D.Area c.args.world.now c.recover.new.world (g.W.Write.contents c.args.writer.now) (g.W.Write.contents c.show-in-Recover.new.writer) verdict c.in_ok-recover-in-Recover.field-0
    c.in_ok-recover-in-Recover.ensures.anyhow c.in_ok-recover-in-Recover.ensures.down c.in_ok-recover-in-Recover.ensures.keeps shown.0 shown.1)

pub returns-in_ok-show_truncation-in-Truncate-clause-tells : goal.returns-in_ok-show_truncation-in-Truncate-clause-tells
returns-in_ok-show_truncation-in-Truncate-clause-tells g c =
    let verdict = c.in_ok-show_truncation-in-Truncate.field-0 in
    let tells = c.in_ok-show_truncation-in-Truncate.ensures.tells in
    tells_as g.D.Area c.args.world.now c.show_truncation.new.world (g.W.Write.contents c.args.writer.now) (g.W.Write.contents c.show_truncation.new.writer) verdict c.args.command.now (Truncate c.in-Truncate.node) c.in-Truncate.is tells

pub returns-in-Log-clause-tells : goal.returns-in-Log-clause-tells
returns-in-Log-clause-tells g c =
    IfOk-weaker c.show_log.result _ _ (λ verdict tells.
    tells_as g.D.Area c.args.world.now c.show_log.new.world (g.W.Write.contents c.args.writer.now) (g.W.Write.contents c.show_log.new.writer) verdict c.args.command.now (Log c.in-Log.node) c.in-Log.is tells) c.show_log.ensures.tells

pub returns-in-Inspect-clause-tells : goal.returns-in-Inspect-clause-tells
returns-in-Inspect-clause-tells g c =
    IfOk-weaker c.show_records.result _ _ (λ verdict tells.
    tells_as g.D.Area c.args.world.now c.show_records.new.world (g.W.Write.contents c.args.writer.now) (g.W.Write.contents c.show_records.new.writer) verdict c.args.command.now (Inspect c.in-Inspect.node) c.in-Inspect.is tells) c.show_records.ensures.tells

pub returns-in_ok-show_page-in-Show-clause-tells : goal.returns-in_ok-show_page-in-Show-clause-tells
returns-in_ok-show_page-in-Show-clause-tells g c =
    let verdict = c.in_ok-show_page-in-Show.field-0 in
    let tells = c.in_ok-show_page-in-Show.ensures.tells in
    tells_as g.D.Area c.args.world.now c.show_page.new.world (g.W.Write.contents c.args.writer.now) (g.W.Write.contents c.show_page.new.writer) verdict c.args.command.now (Show c.in-Show.node c.in-Show.segment c.in-Show.page) c.in-Show.is tells
