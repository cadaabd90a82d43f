use Rattle.std.proofs.Common.{sym, ap, subst, ◌∙◌}
use Rattle.std.specs.Prelude.{Ok}
use Rattle.lc_model.specs.declared.event.Event.{Event}
use Rattle.lc_model.specs.declared.event.Event.TheVariants.{Begin, Write, Abort, Close, FlushStep, Leave, Arrive, Trim, PageStep, ResetStep}
use Rattle.lc_core.specs.Layers.{TriesUp}
use Rattle.lc_core.proofs.Layering.{steps_tries}
use Rattle.lc_core.proofs.up.Up.step.Goals as goal

pub returns-in-Begin : goal.returns-in-Begin
returns-in-Begin g c = subst (λ (e : Event). TriesUp g.D.Area c.args.self.now e (Ok c.begin.result) c.begin.new.self) (sym (c.in-Begin.is ∙ ap (λ l. Begin c.in-Begin.node c.in-Begin.thread l c.in-Begin.reading) (sym c.as_slice.ensures) ∙ ap (λ l. Begin c.in-Begin.node c.in-Begin.thread c.as_slice.result.now l) (sym c.as_slice-in-Begin.ensures))) (steps_tries g.D.Area c.args.self.now (Begin c.in-Begin.node c.in-Begin.thread c.as_slice.result.now c.as_slice-in-Begin.result.now) c.begin.result c.begin.new.self c.begin.ensures)

pub returns-in-SetRange : goal.returns-in-SetRange
returns-in-SetRange g c = subst (λ (e : Event). TriesUp g.D.Area c.args.self.now e c.set_range.result c.set_range.new.self) (sym c.in-SetRange.is) c.set_range.ensures

pub returns-in-Write : goal.returns-in-Write
returns-in-Write g c = subst (λ (e : Event). TriesUp g.D.Area c.args.self.now e (Ok c.write.result) c.write.new.self) (sym (c.in-Write.is ∙ ap (λ l. Write c.in-Write.node c.in-Write.thread c.in-Write.segment c.in-Write.offset l) (sym c.as_slice-in-Write.ensures))) (steps_tries g.D.Area c.args.self.now (Write c.in-Write.node c.in-Write.thread c.in-Write.segment c.in-Write.offset c.as_slice-in-Write.result.now) c.write.result c.write.new.self c.write.ensures)

pub returns-in-Read : goal.returns-in-Read
returns-in-Read g c = subst (λ (e : Event). TriesUp g.D.Area c.args.self.now e c.read.result c.read.new.self) (sym c.in-Read.is) c.read.ensures

pub returns-in-Abort : goal.returns-in-Abort
returns-in-Abort g c = subst (λ (e : Event). TriesUp g.D.Area c.args.self.now e (Ok c.abort.result) c.abort.new.self) (sym c.in-Abort.is) (steps_tries g.D.Area c.args.self.now (Abort c.in-Abort.node c.in-Abort.thread) c.abort.result c.abort.new.self c.abort.ensures)

pub returns-in-Reserve : goal.returns-in-Reserve
returns-in-Reserve g c = subst (λ (e : Event). TriesUp g.D.Area c.args.self.now e c.reserve.result c.reserve.new.self) (sym c.in-Reserve.is) c.reserve.ensures

pub returns-in-Close : goal.returns-in-Close
returns-in-Close g c = subst (λ (e : Event). TriesUp g.D.Area c.args.self.now e (Ok c.close.result) c.close.new.self) (sym c.in-Close.is) (steps_tries g.D.Area c.args.self.now (Close c.in-Close.node c.in-Close.thread) c.close.result c.close.new.self c.close.ensures)

pub returns-in-FlushStep : goal.returns-in-FlushStep
returns-in-FlushStep g c = subst (λ (e : Event). TriesUp g.D.Area c.args.self.now e (Ok c.flush_step.result) c.flush_step.new.self) (sym c.in-FlushStep.is) (steps_tries g.D.Area c.args.self.now (FlushStep c.in-FlushStep.node) c.flush_step.result c.flush_step.new.self c.flush_step.ensures)

pub returns-in-Leave : goal.returns-in-Leave
returns-in-Leave g c = subst (λ (e : Event). TriesUp g.D.Area c.args.self.now e (Ok c.leave.result) c.leave.new.self) (sym c.in-Leave.is) (steps_tries g.D.Area c.args.self.now (Leave c.in-Leave.node c.in-Leave.segment) c.leave.result c.leave.new.self c.leave.ensures)

pub returns-in-Arrive : goal.returns-in-Arrive
returns-in-Arrive g c = subst (λ (e : Event). TriesUp g.D.Area c.args.self.now e (Ok c.arrive.result) c.arrive.new.self) (sym c.in-Arrive.is) (steps_tries g.D.Area c.args.self.now (Arrive c.in-Arrive.node c.in-Arrive.segment) c.arrive.result c.arrive.new.self c.arrive.ensures)

pub returns-in-Deliver : goal.returns-in-Deliver
returns-in-Deliver g c = subst (λ (e : Event). TriesUp g.D.Area c.args.self.now e c.deliver.result c.deliver.new.self) (sym c.in-Deliver.is) c.deliver.ensures

pub returns-in-Trim : goal.returns-in-Trim
returns-in-Trim g c = subst (λ (e : Event). TriesUp g.D.Area c.args.self.now e (Ok c.trim.result) c.trim.new.self) (sym c.in-Trim.is) (steps_tries g.D.Area c.args.self.now (Trim c.in-Trim.node) c.trim.result c.trim.new.self c.trim.ensures)

pub returns-in-PageStep : goal.returns-in-PageStep
returns-in-PageStep g c = subst (λ (e : Event). TriesUp g.D.Area c.args.self.now e (Ok c.page_step.result) c.page_step.new.self) (sym c.in-PageStep.is) (steps_tries g.D.Area c.args.self.now (PageStep c.in-PageStep.node c.in-PageStep.segment c.in-PageStep.page) c.page_step.result c.page_step.new.self c.page_step.ensures)

pub returns-in-ResetStep : goal.returns-in-ResetStep
returns-in-ResetStep g c = subst (λ (e : Event). TriesUp g.D.Area c.args.self.now e (Ok c.reset_step.result) c.reset_step.new.self) (sym c.in-ResetStep.is) (steps_tries g.D.Area c.args.self.now (ResetStep c.in-ResetStep.node) c.reset_step.result c.reset_step.new.self c.reset_step.ensures)
