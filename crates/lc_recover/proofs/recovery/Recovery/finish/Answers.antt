use Rattle.std.proofs.Common.{map, sym, ◌∙◌, ap, subst}
use Rattle.lc_recover.specs.Recovery.{Recovering, IsDone}
use Rattle.lc_recover.specs.Recovered.{RecoveredStore, page_read}
use Rattle.lc_recover.specs.RecoveryPhase.{Fits}
use Rattle.lc_recover.specs.Steps.{pages_kept}
use Rattle.lc_recover.specs.declared.recovery_phase.RecoveryPhase.{RecoveryPhase}
use Rattle.lc_recover.specs.declared.recovery_phase.RecoveryPhase.TheVariants.{Done}
use Rattle.lc_recover.proofs.FinishedStore.{areas_finished, areas_long, has_pages, made}
use Rattle.lc_recover.proofs.Going.{not_over-done, not_done}
use Rattle.lc_recover.proofs.Renewing.{handed-out}
use Rattle.lc_recover.proofs.recovery.Recovery.finish.Goals as goal

pub unreachable-requires : goal.unreachable-requires
unreachable-requires g c =
    not_over-done g.D.Area c.self.inside.geometry c.self.inside.areas.items c.self.inside.stage c.self.invariant
    (not_done g.D.Area c.self.inside.geometry c.self.inside.areas.items c.self.inside.stage c.in_default.not-Done)
    (subst (λ (r : Recovering g.row.D.Denot). IsDone r) (sym c.self.view_is) c.requires)

pub new-requires : goal.new-requires
new-requires g c =
    let inside = c.self.inside in
    let fits : Fits g.D.Area inside.geometry (Done c.in-Done.finished) inside.areas.items =
    subst (λ (s : RecoveryPhase). Fits g.D.Area inside.geometry s inside.areas.items) c.in-Done.is c.self.invariant.fits in
    has_pages inside.geometry c.in-Done.finished.segments.items c.in-Done.finished.numbers.items fits.1.0 fits.1.3

pub returns-clause-lengths : goal.returns-clause-lengths
returns-clause-lengths g c =
    let inside = c.self.inside in
    let fits : Fits g.D.Area inside.geometry (Done c.in-Done.finished) inside.areas.items =
    subst (λ (s : RecoveryPhase). Fits g.D.Area inside.geometry s inside.areas.items) c.in-Done.is c.self.invariant.fits in
    areas_long g.D.Area inside.geometry c.in-Done.finished inside.areas.items fits.0 fits.1.1 fits.1.0 fits.1.2 fits.1.3 c.new.result c.new.ensures

pub returns-clause-made : goal.returns-clause-made
returns-clause-made g c =
    let inside = c.self.inside in
    let fits : Fits g.D.Area inside.geometry (Done c.in-Done.finished) inside.areas.items =
    subst (λ (s : RecoveryPhase). Fits g.D.Area inside.geometry s inside.areas.items) c.in-Done.is c.self.invariant.fits in
    made g.D.Area inside.geometry c.in-Done.finished inside.areas.items fits.0 fits.1.1 fits.1.0 fits.1.2 fits.1.3 c.new.result c.new.ensures

pub returns-clause-each : goal.returns-clause-each
returns-clause-each g c =
    let inside = c.self.inside in
    let fits : Fits g.D.Area inside.geometry (Done c.in-Done.finished) inside.areas.items =
    subst (λ (s : RecoveryPhase). Fits g.D.Area inside.geometry s inside.areas.items) c.in-Done.is c.self.invariant.fits in
    areas_finished g.D.Area inside.geometry c.in-Done.finished inside.areas.items fits.0 fits.1.1 fits.1.0 fits.1.2 fits.1.3 c.new.result c.new.ensures

pub returns-clause-kept : goal.returns-clause-kept
returns-clause-kept g c =
    ap (λ (r : RecoveredStore g.row.D.Denot). map (map page_read) r.pages) c.new.ensures
    ∙ handed-out c.in-Done.finished.segments.items
    ∙ sym (ap pages_kept c.in-Done.is)
    ∙ ap (λ (r : Recovering g.row.D.Denot). r.kept) c.self.view_is
