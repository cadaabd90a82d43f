use Rattle.std.proofs.Common.{◌≡◌, length, subst, Bool, arith}
use Rattle.lc_recover.proofs.AreaLemmas.{not_ok}
use Rattle.lc_recover.proofs.Calling.{writing-calls, begun-calls, left-or_end}
use Rattle.lc_recover.proofs.Keeping.{writes-keep}
use Rattle.lc_recover.proofs.PageEnd.{end-done, end-pages, writes-end, writes-rest, end-steps}
use Rattle.lc_recover.specs.RecoveryPhase.{OneCall}
use Rattle.lc_recover.proofs.advance.write_step.Goals as goal

pub reset_step-requires-clause-fits : goal.reset_step-requires-clause-fits
reset_step-requires-clause-fits g c =
    let end : c.args.writes.next ≡ length c.args.writes.merged.changes.items = omega (arith, c.if-writes-len.true, c.len.ensures) in
    let r = c.resets_of in (
      writes-rest c.args.geometry.now c.args.writes c.requires.fits.1 end r.result r.ensures.logs r.ensures.segments r.ensures.numbers r.ensures.next g.D.Area c.args.areas.now r.ensures.at_rest c.requires.fits.0,
      writes-end c.args.geometry.now c.args.writes c.requires.fits.1 end r.result r.ensures.logs r.ensures.segments r.ensures.numbers r.ensures.next,
    )

pub returns-then-writes-len-clause-steps : goal.returns-then-writes-len-clause-steps
returns-then-writes-len-clause-steps g c =
    let end : c.args.writes.next ≡ length c.args.writes.merged.changes.items = omega (arith, c.if-writes-len.true, c.len.ensures) in
    let r = c.resets_of in
    end-steps c.args.geometry.now c.args.writes c.requires.fits.1 end r.result r.ensures.written r.ensures.next r.ensures.at_rest c.reset_step.result c.reset_step.ensures.steps

pub returns-in_err-write_next-clause-merges : goal.returns-in_err-write_next-clause-merges
returns-in_err-write_next-clause-merges g c content numbers honest merges =
    writes-keep g.D.Area c.args.geometry.now c.args.areas.now c.write_next.new.areas _ _ c.write_next.ensures.call.2 c.args.writes c.requires.fits.1 c.requires.fits.0 c.write_next.ensures.areas honest (c.write_next.ensures.shows c.requires.fits.1 honest) content numbers merges

pub returns-clause-merges : goal.returns-clause-merges
returns-clause-merges g c content numbers honest merges =
    writes-keep g.D.Area c.args.geometry.now c.args.areas.now c.write_next.new.areas _ _ c.write_next.ensures.call.2 c.args.writes c.requires.fits.1 c.requires.fits.0 c.write_next.ensures.areas honest (c.write_next.ensures.shows c.requires.fits.1 honest) content numbers merges

pub returns-then-writes-len-clause-call : goal.returns-then-writes-len-clause-call
returns-then-writes-len-clause-call g c =
    let end : c.args.writes.next ≡ length c.args.writes.merged.changes.items = omega (arith, c.if-writes-len.true, c.len.ensures) in
    let r = c.resets_of in
    let call = c.reset_step.ensures.call in (
      call.0,
      begun-calls c.args.geometry.now c.args.areas.now c.args.writes r.result r.ensures.written r.ensures.next r.ensures.at_rest
          (end-done c.args.geometry.now c.args.writes c.requires.fits.1 end) (end-pages c.args.geometry.now c.args.writes c.requires.fits.1 end) call.0 call.1,
      call.2,
    )

pub returns-in_err-write_next-clause-call : goal.returns-in_err-write_next-clause-call
returns-in_err-write_next-clause-call g c =
    let call = c.in_err-write_next.ensures.call in (
      call.0,
      writing-calls c.args.geometry.now c.args.areas.now c.args.writes call.0 c.requires.fits.1 (left-or_end c.args.geometry.now c.args.areas.now c.args.writes c.requires.fits.1 (λ same. omega (arith, c.if-writes-len.false, c.len.ensures, same))) call.1,
      subst (λ (ok : Bool). OneCall g.D.Area call.0 c.args.areas.now c.write_next.new.areas ok) (not_ok c.from_residual.result c.from_residual.ensures.0) call.2,
    )

pub returns-clause-call : goal.returns-clause-call
returns-clause-call g c =
    let call = c.in_ok-write_next.ensures.call in
    (call.0, writing-calls c.args.geometry.now c.args.areas.now c.args.writes call.0 c.requires.fits.1 (left-or_end c.args.geometry.now c.args.areas.now c.args.writes c.requires.fits.1 (λ same. omega (arith, c.if-writes-len.false, c.len.ensures, same))) call.1, call.2)
