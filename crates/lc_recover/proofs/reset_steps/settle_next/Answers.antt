use Rattle.std.proofs.Common.{◌≡◌, ◌∙◌, ◌<◌, ◌≤◌, ℕ, [], refl, sym, arith, true, length, get_or, Some, inl}
use Rattle.std.specs.Prelude.{slice_get, slice_index_or}
use Rattle.std.proofs.lemmas.Option.{slice_get-get_or}
use Rattle.lc_record.proofs.ListLemmas.{OnOk_then as on_ok}
use Rattle.lc_recover.proofs.AreaLemmas.{one-call}
use Rattle.lc_recover.proofs.ResetSteps.{long_log, reset-begins, reset-fits, logs-show, is-closing, passed}
use Rattle.lc_recover.specs.RecoveryPhase.{AreaFits, IsResetting}
use Rattle.lc_log.specs.NodeLog.{IsShut}
use Rattle.lc_recover.specs.declared.recovery_phase.RecoveryPhase.TheVariants.{Resetting}
use Rattle.lc_recover.proofs.reset_steps.settle_next.Given.{Over}
use Rattle.lc_recover.proofs.reset_steps.settle_next.Goals as goal

module _ (g : Over) (c : goal.After-settle_log g) where
  abbrev k : ℕ
  k = c.args.resets.now.next

  abbrev old : g.row.D.Denot
  old = get_or c.args.areas.now c.args.resets.now.next c.index-areas-resets.result

  within : c.args.resets.now.next < length c.args.areas.now
  within = omega (arith, c.requires.left, c.requires.fits.0.count)

  was : slice_get c.args.areas.now c.args.resets.now.next ≡ Some old
  was = slice_get-get_or c.args.areas.now c.args.resets.now.next c.index-areas-resets.result within

  was_fit : AreaFits g.D.Area c.args.geometry.now (Resetting c.args.resets.now) c.args.resets.now.next old
  was_fit = c.requires.fits.0.each c.args.resets.now.next old was

  long : 8 ≤ length (g.D.Area.now old)
  long = long_log g.D.Area c.args.geometry.now c.args.resets.now.next old c.requires.left was_fit.len

  was_honest : g.D.Area.honest c.settle_log.new.area ≡ true → g.D.Area.honest old ≡ true
  was_honest honest = sym c.settle_log.ensures.device.honest ∙ honest

pub returns-clause-areas : goal.returns-clause-areas
returns-clause-areas g c = reset-begins g.D.Area c.args.geometry.now c.args.resets.now c.args.resets.now c.args.areas.now c.args.resets.now.next (old g c) c.settle_log.new.area (was g c) c.requires.fits.0 c.settle_log.ensures.device.honest c.settle_log.ensures.device.same_length c.settle_log.ensures.bytes c.requires.left

pub returns-clause-call : goal.returns-clause-call
returns-clause-call g c = one-call g.D.Area c.args.geometry.now c.args.areas.now c.args.resets.now.next (old g c) c.settle_log.new.area (was g c) _ c.settle_log.ensures.device

module _ (g : Over) (c : goal.After-settle_log g) (i : IsResetting c.args.geometry.now c.args.resets.now) where
  shut : g.D.Area.honest (old g c) ≡ true → IsShut (g.D.Area.now (old g c)) (g.D.Area.dirty (old g c)) (slice_index_or i.store.logs c.args.resets.now.next [])
  shut honest = is-closing g.D.Area c.args.resets.now (old g c) c.requires.closing ((was_fit g c).log honest c.requires.left) (slice_index_or i.store.logs c.args.resets.now.next []) (i.texts.texts c.args.resets.now.next c.requires.left)

pub returns-clause-fits : goal.returns-clause-fits
returns-clause-fits g c =
    on_ok c.settle_log.result c.settle_log.ensures.emptied (λ emptied.
    reset-fits g.D.Area c.args.geometry.now c.args.resets.now _ c.args.areas.now c.args.resets.now.next (old g c) c.settle_log.new.area (was g c) c.requires.fits.0 c.settle_log.ensures.device.honest c.settle_log.ensures.device.same_length c.settle_log.ensures.bytes c.requires.left
    (λ log area differ known. passed g.D.Area c.args.resets.now log area differ known) refl
    (λ alive.
    let i = c.requires.fits.1 in
    let was_alive = was_honest g c alive in
    inl (omega arith, emptied (slice_index_or i.store.logs c.args.resets.now.next []) (λ honest. shut g c i honest) was_alive)))

pub returns-clause-shows : goal.returns-clause-shows
returns-clause-shows g c i alive =
    logs-show g.D.Area c.args.geometry.now c.args.resets.now c.args.areas.now c.args.resets.now.next (old g c) c.settle_log.new.area (was g c) c.requires.left c.requires.fits.0 i alive
    (c.settle_log.ensures.images (slice_index_or i.store.logs c.args.resets.now.next []) (shut g c i))
