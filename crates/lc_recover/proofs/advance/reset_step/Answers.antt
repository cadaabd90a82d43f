use Rattle.std.proofs.Common.{refl, subst, Bool}
use Rattle.lc_recover.proofs.AreaLemmas.{not_ok}
use Rattle.lc_recover.proofs.Calling.{resetting-calls}
use Rattle.lc_recover.proofs.Keeping.{resets-keep, resets-end}
use Rattle.lc_recover.specs.RecoveryPhase.{OneCall}
use Rattle.lc_recover.proofs.advance.reset_step.Goals as goal

pub returns-in_err-reset_next-clause-merges : goal.returns-in_err-reset_next-clause-merges
returns-in_err-reset_next-clause-merges g c content numbers honest merges =
    resets-keep g.D.Area c.args.geometry.now c.args.areas.now c.reset_next.new.areas _ _ c.reset_next.ensures.call c.args.resets c.requires.fits.1 c.requires.fits.0 c.reset_next.ensures.areas honest (c.reset_next.ensures.shows c.requires.fits.1 honest) content numbers merges

pub returns-then-resets-geometry-clause-merges : goal.returns-then-resets-geometry-clause-merges
returns-then-resets-geometry-clause-merges g c content numbers honest merges =
    resets-keep g.D.Area c.args.geometry.now c.args.areas.now c.reset_next.new.areas _ _ c.reset_next.ensures.call c.args.resets c.requires.fits.1 c.requires.fits.0 c.reset_next.ensures.areas honest (c.reset_next.ensures.shows c.requires.fits.1 honest) content numbers merges

pub returns-clause-fits : goal.returns-clause-fits
returns-clause-fits g c =
    let i = c.in_ok-reset_next.ensures.fits.1 in (
      resets-end g.D.Area c.args.geometry.now c.reset_next.new.resets (record { segments = c.reset_next.new.resets.segments; numbers = c.reset_next.new.resets.numbers; written = c.reset_next.new.resets.written }) c.reset_next.new.areas
          c.in_ok-reset_next.ensures.fits.0 c.if-resets-geometry.false refl,
      (i.store, c.reset_next.new.resets.logs.items, i.texts, i.whole),
    )

pub returns-clause-merges : goal.returns-clause-merges
returns-clause-merges g c content numbers honest merges =
    resets-keep g.D.Area c.args.geometry.now c.args.areas.now c.reset_next.new.areas _ _ c.reset_next.ensures.call c.args.resets c.requires.fits.1 c.requires.fits.0 c.reset_next.ensures.areas honest (c.reset_next.ensures.shows c.requires.fits.1 honest) content numbers merges

pub returns-in_err-reset_next-clause-call : goal.returns-in_err-reset_next-clause-call
returns-in_err-reset_next-clause-call g c = (
  c.args.resets.next,
  resetting-calls c.args.geometry.now c.args.areas.now c.args.resets,
  subst (λ (ok : Bool). OneCall g.D.Area c.args.resets.next c.args.areas.now c.reset_next.new.areas ok) (not_ok c.from_residual.result c.from_residual.ensures.0) c.in_err-reset_next.ensures.call,
)

pub returns-then-resets-geometry-clause-call : goal.returns-then-resets-geometry-clause-call
returns-then-resets-geometry-clause-call g c = (c.args.resets.next, resetting-calls c.args.geometry.now c.args.areas.now c.args.resets, c.in_ok-reset_next.ensures.call)

pub returns-clause-call : goal.returns-clause-call
returns-clause-call g c = (c.args.resets.next, resetting-calls c.args.geometry.now c.args.areas.now c.args.resets, c.in_ok-reset_next.ensures.call)
