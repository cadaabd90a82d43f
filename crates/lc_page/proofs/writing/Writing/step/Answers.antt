use Rattle.std.proofs.Common.{None, Some, sym, subst}
use Rattle.lc_page.specs.declared.draft.Draft.{Draft}
use Rattle.lc_page.specs.PageWrite.{drafted, ClosedIn, FillingIn, FilledIn, OpeningIn}
use Rattle.lc_page.specs.declared.writing.Writing.TheVariants.{AtClosed, AtFilling, AtFilled, AtOpening}
use Rattle.lc_page.proofs.WritingLemmas.{old_either, new_either, LeavesEither, LeavesOld, LeadsTo}
use Rattle.lc_page.proofs.writing.Writing.step.Goals as goal

pub returns-in_err-sync_closed-in-AtClosing-clause-page : goal.returns-in_err-sync_closed-in-AtClosing-clause-page
returns-in_err-sync_closed-in-AtClosing-clause-page g c = subst (LeavesEither g.D.Area c.args.area.now c.sync_closed.new.area) (sym c.in-AtClosing.is) (λ text old is honest. old_either _ _ _ old (drafted c.in-AtClosing.write.draft) (c.sync_closed.ensures.page text old is honest))

pub returns-in_err-sync_closed-in-AtClosing-clause-old_page : goal.returns-in_err-sync_closed-in-AtClosing-clause-old_page
returns-in_err-sync_closed-in-AtClosing-clause-old_page g c = subst (LeavesOld g.D.Area c.args.area.now c.sync_closed.new.area) (sym c.in-AtClosing.is) (λ text old few is. c.sync_closed.ensures.page text old is)

pub returns-in_ok-sync_closed-in-AtClosing-clause-page : goal.returns-in_ok-sync_closed-in-AtClosing-clause-page
returns-in_ok-sync_closed-in-AtClosing-clause-page g c = subst (LeavesEither g.D.Area c.args.area.now c.sync_closed.new.area) (sym c.in-AtClosing.is) (λ text old is honest. old_either _ _ _ old (drafted c.in-AtClosing.write.draft) (c.sync_closed.ensures.page text old is honest))

pub returns-in_ok-sync_closed-in-AtClosing-clause-old_page : goal.returns-in_ok-sync_closed-in-AtClosing-clause-old_page
returns-in_ok-sync_closed-in-AtClosing-clause-old_page g c = subst (LeavesOld g.D.Area c.args.area.now c.sync_closed.new.area) (sym c.in-AtClosing.is) (λ text old few is. c.sync_closed.ensures.page text old is)

pub returns-in_ok-sync_closed-in-AtClosing-clause-goes_on : goal.returns-in_ok-sync_closed-in-AtClosing-clause-goes_on
returns-in_ok-sync_closed-in-AtClosing-clause-goes_on g c =
    let done = c.in_ok-sync_closed-in-AtClosing in
    subst (LeadsTo g.D.Area c.args.area.now c.sync_closed.new.area (Some (AtClosed done.field-0))) (sym c.in-AtClosing.is) (λ text old is.
    subst (λ (draft : Draft). ClosedIn g.D.Area c.sync_closed.new.area draft text old) (sym done.ensures.draft) (done.ensures.closed text old is))

pub returns-in_err-fill-in-AtClosed-clause-page : goal.returns-in_err-fill-in-AtClosed-clause-page
returns-in_err-fill-in-AtClosed-clause-page g c = subst (LeavesEither g.D.Area c.args.area.now c.fill.new.area) (sym c.in-AtClosed.is) (λ text old is honest. old_either _ _ _ old (drafted c.in-AtClosed.write.draft) (c.fill.ensures.page text old is honest))

pub returns-in_err-fill-in-AtClosed-clause-old_page : goal.returns-in_err-fill-in-AtClosed-clause-old_page
returns-in_err-fill-in-AtClosed-clause-old_page g c = subst (LeavesOld g.D.Area c.args.area.now c.fill.new.area) (sym c.in-AtClosed.is) (λ text old few is. c.fill.ensures.page text old is)

pub returns-in_ok-fill-in-AtClosed-clause-page : goal.returns-in_ok-fill-in-AtClosed-clause-page
returns-in_ok-fill-in-AtClosed-clause-page g c = subst (LeavesEither g.D.Area c.args.area.now c.fill.new.area) (sym c.in-AtClosed.is) (λ text old is honest. old_either _ _ _ old (drafted c.in-AtClosed.write.draft) (c.fill.ensures.page text old is honest))

pub returns-in_ok-fill-in-AtClosed-clause-old_page : goal.returns-in_ok-fill-in-AtClosed-clause-old_page
returns-in_ok-fill-in-AtClosed-clause-old_page g c = subst (LeavesOld g.D.Area c.args.area.now c.fill.new.area) (sym c.in-AtClosed.is) (λ text old few is. c.fill.ensures.page text old is)

pub returns-in_ok-fill-in-AtClosed-clause-goes_on : goal.returns-in_ok-fill-in-AtClosed-clause-goes_on
returns-in_ok-fill-in-AtClosed-clause-goes_on g c =
    let done = c.in_ok-fill-in-AtClosed in
    subst (LeadsTo g.D.Area c.args.area.now c.fill.new.area (Some (AtFilling done.field-0))) (sym c.in-AtClosed.is) (λ text old is.
    subst (λ (draft : Draft). FillingIn g.D.Area c.fill.new.area draft text old) (sym done.ensures.draft) (done.ensures.filling text old is))

pub returns-in_err-sync_filled-in-AtFilling-clause-page : goal.returns-in_err-sync_filled-in-AtFilling-clause-page
returns-in_err-sync_filled-in-AtFilling-clause-page g c = subst (LeavesEither g.D.Area c.args.area.now c.sync_filled.new.area) (sym c.in-AtFilling.is) (λ text old is honest. old_either _ _ _ old (drafted c.in-AtFilling.write.draft) (c.sync_filled.ensures.page text old is honest))

pub returns-in_err-sync_filled-in-AtFilling-clause-old_page : goal.returns-in_err-sync_filled-in-AtFilling-clause-old_page
returns-in_err-sync_filled-in-AtFilling-clause-old_page g c = subst (LeavesOld g.D.Area c.args.area.now c.sync_filled.new.area) (sym c.in-AtFilling.is) (λ text old few is. c.sync_filled.ensures.page text old is)

pub returns-in_ok-sync_filled-in-AtFilling-clause-page : goal.returns-in_ok-sync_filled-in-AtFilling-clause-page
returns-in_ok-sync_filled-in-AtFilling-clause-page g c = subst (LeavesEither g.D.Area c.args.area.now c.sync_filled.new.area) (sym c.in-AtFilling.is) (λ text old is honest. old_either _ _ _ old (drafted c.in-AtFilling.write.draft) (c.sync_filled.ensures.page text old is honest))

pub returns-in_ok-sync_filled-in-AtFilling-clause-old_page : goal.returns-in_ok-sync_filled-in-AtFilling-clause-old_page
returns-in_ok-sync_filled-in-AtFilling-clause-old_page g c = subst (LeavesOld g.D.Area c.args.area.now c.sync_filled.new.area) (sym c.in-AtFilling.is) (λ text old few is. c.sync_filled.ensures.page text old is)

pub returns-in_ok-sync_filled-in-AtFilling-clause-goes_on : goal.returns-in_ok-sync_filled-in-AtFilling-clause-goes_on
returns-in_ok-sync_filled-in-AtFilling-clause-goes_on g c =
    let done = c.in_ok-sync_filled-in-AtFilling in
    subst (LeadsTo g.D.Area c.args.area.now c.sync_filled.new.area (Some (AtFilled done.field-0))) (sym c.in-AtFilling.is) (λ text old is.
    subst (λ (draft : Draft). FilledIn g.D.Area c.sync_filled.new.area draft text old) (sym done.ensures.draft) (done.ensures.filled text old is))

pub returns-in_err-open_gate-in-AtFilled-clause-page : goal.returns-in_err-open_gate-in-AtFilled-clause-page
returns-in_err-open_gate-in-AtFilled-clause-page g c = subst (LeavesEither g.D.Area c.args.area.now c.open_gate.new.area) (sym c.in-AtFilled.is) (λ text old is honest. c.open_gate.ensures.page text old is honest)

pub returns-in_ok-open_gate-in-AtFilled-clause-page : goal.returns-in_ok-open_gate-in-AtFilled-clause-page
returns-in_ok-open_gate-in-AtFilled-clause-page g c = subst (LeavesEither g.D.Area c.args.area.now c.open_gate.new.area) (sym c.in-AtFilled.is) (λ text old is honest. c.open_gate.ensures.page text old is honest)

pub returns-in_ok-open_gate-in-AtFilled-clause-goes_on : goal.returns-in_ok-open_gate-in-AtFilled-clause-goes_on
returns-in_ok-open_gate-in-AtFilled-clause-goes_on g c =
    let done = c.in_ok-open_gate-in-AtFilled in
    subst (LeadsTo g.D.Area c.args.area.now c.open_gate.new.area (Some (AtOpening done.field-0))) (sym c.in-AtFilled.is) (λ text old is.
    subst (λ (draft : Draft). OpeningIn g.D.Area c.open_gate.new.area draft text old) (sym done.ensures.draft) (done.ensures.opening text old is))

pub returns-in_err-sync_open-in-AtOpening-clause-page : goal.returns-in_err-sync_open-in-AtOpening-clause-page
returns-in_err-sync_open-in-AtOpening-clause-page g c = subst (LeavesEither g.D.Area c.args.area.now c.sync_open.new.area) (sym c.in-AtOpening.is) (c.in_err-sync_open-in-AtOpening.ensures.failed)

pub returns-in-AtOpening-clause-page : goal.returns-in-AtOpening-clause-page
returns-in-AtOpening-clause-page g c = subst (LeavesEither g.D.Area c.args.area.now c.sync_open.new.area) (sym c.in-AtOpening.is) (λ text old is honest.
    new_either _ _ _ old (drafted c.in-AtOpening.write.draft) (c.in_ok-sync_open-in-AtOpening.ensures.page text old is honest))

pub returns-in-AtOpening-clause-goes_on : goal.returns-in-AtOpening-clause-goes_on
returns-in-AtOpening-clause-goes_on g c = subst (LeadsTo g.D.Area c.args.area.now c.sync_open.new.area None) (sym c.in-AtOpening.is) (λ text old is. record {
  settled = c.in_ok-sync_open-in-AtOpening.ensures.settled text old is;
  page = c.in_ok-sync_open-in-AtOpening.ensures.page text old is;
})
