use Rattle.std.proofs.Common.{◌≡◌, ◌+◌, refl, sym, ◌∙◌, ap, subst, length, Err, List, ℕ, arith}
use Rattle.lc_recover.proofs.AreaLemmas.{begins}
use Rattle.lc_recover.proofs.ReadLemmas.{same-counted}
use Rattle.lc_recover.proofs.StoppedFits.{stopped-fits, same-read}
use Rattle.lc_recover.specs.KeptAreas.{read_count}
use Rattle.lc_recover.specs.Reads.{area_count}
use Rattle.lc_recover.specs.RecoveryPhase.{Fits}
use Rattle.lc_recover.specs.declared.recovery_phase.RecoveryPhase.TheVariants.{Reading}
use Rattle.lc_recover.proofs.advance.read_step.Goals as goal

pub read_area-requires-clause-areas : goal.read_area-requires-clause-areas
read_area-requires-clause-areas g c = begins g.D.Area c.args.geometry.now (Reading c.args.read) c.args.areas.now c.requires.fits.0

pub returns-in-Ok-clause-fits : goal.returns-in-Ok-clause-fits
returns-in-Ok-clause-fits g c = c.in-Ok.ensures.fits c.requires.fits

pub returns-in-Err-clause-stopped : goal.returns-in-Err-clause-stopped
returns-in-Err-clause-stopped g c =
    stopped-fits g.D.Area c.args.geometry.now c.args.areas.now c.read_area.new.areas (Reading c.args.read) (Reading c.read_area.new.read) c.new.result c.read_area.ensures.areas
    (λ wants.
    let both = c.read_area.ensures.no_memory (c.in-Err.is ∙ ap Err (sym c.new.ensures.fault ∙ wants)) in (
      both.0,
      subst (λ (l : List g.row.D.Denot). Fits g.D.Area c.args.geometry.now (Reading c.read_area.new.read) l) (sym both.0)
          (same-read g.D.Area c.args.geometry.now c.args.areas.now c.args.read c.read_area.new.read both.1.logs both.1.segments
          (same-counted c.args.read c.read_area.new.read both.1 c.requires.fits.1.3) c.requires.fits),
    ))
    tt refl refl refl
    (λ wants.
    let same = (c.read_area.ensures.no_memory (c.in-Err.is ∙ ap Err (sym c.new.ensures.fault ∙ wants))).1 in
    let count : read_count c.read_area.new.read ≡ read_count c.args.read = omega (arith, ap (λ (l : List (List ℕ)). length l) same.logs, ap (λ l. length l) same.segments) in
    ap (λ (n : ℕ). area_count c.args.geometry.now + n) count)
    (λ wants. c.new.ensures.kept (sym c.new.ensures.fault ∙ wants))
    (λ other. c.new.ensures.again (λ wants. other (c.new.ensures.fault ∙ wants)))
