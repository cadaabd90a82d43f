use Rattle.std.proofs.Common.{◌≡◌, ◌∙◌, ◌<◌, ◌≤◌, ℕ, List, [], refl, sym, ap, arith, true, length, get_or, Some, inl, inr}
use Rattle.std.specs.Prelude.{slice_get, slice_index_or}
use Rattle.std.proofs.lemmas.Option.{slice_get-get_or, get_or_from_slice_get}
use Rattle.lc_recover.proofs.AreaLemmas.{one-call}
use Rattle.lc_recover.proofs.ResetSteps.{long_log, reset-begins, reset-fits, logs-show, words-show, at-rest, turned}
use Rattle.lc_recover.specs.RecoveryPhase.{AreaFits, ReadsWords}
use Rattle.lc_record.specs.Words.{words_of}
use Rattle.lc_record.specs.declared.record.Record.{Record}
use Rattle.lc_record.proofs.ListLemmas.{OnOk_then as on_ok}
use Rattle.lc_log.specs.LogText.{IsLogText}
use Rattle.lc_log.specs.NodeLog.{GateReads, Holds}
use Rattle.lc_recover.specs.declared.recovery_phase.RecoveryPhase.TheVariants.{Resetting}
use Rattle.lc_recover.proofs.reset_steps.close_next.Given.{Over}
use Rattle.lc_recover.proofs.reset_steps.close_next.Goals as goal

module _ (g : Over) (c : goal.After-close_log g) where
  abbrev k : ℕ
  k = c.args.resets.now.next

  abbrev old : g.row.D.Denot
  old = get_or c.args.areas.now c.args.resets.now.next c.index-areas-resets.result

  within : c.args.resets.now.next < length c.args.areas.now
  within = omega (arith, c.requires.left, c.requires.fits.0.count)

  was : slice_get c.args.areas.now c.args.resets.now.next ≡ Some old
  was = slice_get-get_or c.args.areas.now c.args.resets.now.next c.index-areas-resets.result within

  was_fit : AreaFits g.D.Area c.args.geometry.now (Resetting c.args.resets.now) c.args.resets.now.next old
  was_fit = c.requires.fits.0.each c.args.resets.now.next old was

  long : 8 ≤ length (g.D.Area.now old)
  long = long_log g.D.Area c.args.geometry.now c.args.resets.now.next old c.requires.left was_fit.len

  was_honest : g.D.Area.honest c.close_log.new.area ≡ true → g.D.Area.honest old ≡ true
  was_honest honest = sym c.close_log.ensures.device.honest ∙ honest

pub returns-clause-areas : goal.returns-clause-areas
returns-clause-areas g c = reset-begins g.D.Area c.args.geometry.now c.args.resets.now c.args.resets.now c.args.areas.now c.args.resets.now.next (old g c) c.close_log.new.area (was g c) c.requires.fits.0 c.close_log.ensures.device.honest c.close_log.ensures.device.same_length c.close_log.ensures.bytes c.requires.left

pub returns-clause-call : goal.returns-clause-call
returns-clause-call g c = one-call g.D.Area c.args.geometry.now c.args.areas.now c.args.resets.now.next (old g c) c.close_log.new.area (was g c) _ c.close_log.ensures.device

module _ (g : Over) (c : goal.After-close_log g) where
  reads : g.D.Area.honest (old g c) ≡ true → ReadsWords g.D.Area (slice_index_or c.args.resets.now.logs.items c.args.resets.now.next []) (old g c)
  reads honest = at-rest g.D.Area c.args.resets.now (old g c) c.requires.at_rest ((was_fit g c).log honest c.requires.left)

  words : g.D.Area.honest (old g c) ≡ true → c.as_slice.result.now ≡ words_of (g.D.Area.now (old g c))
  words honest =
      let i = c.requires.fits.1 in
      let inside : c.args.resets.now.next < length c.args.resets.now.logs.items = omega (arith, c.requires.left, i.texts.count) in
      let here : slice_index_or c.args.resets.now.logs.items c.args.resets.now.next [] ≡ c.index.result.now =
      get_or_from_slice_get c.args.resets.now.logs.items c.args.resets.now.next c.index.result.now []
      (slice_get-get_or c.args.resets.now.logs.items c.args.resets.now.next c.index.result.now inside ∙ ap Some (sym c.index.ensures)) in
      c.as_slice.ensures ∙ sym here ∙ sym (reads honest).words_are

  gate : GateReads g.D.Area (old g c) c.begins_open-is_open.result
  gate honest = c.begins_open-is_open.ensures (g.D.Area.now (old g c)) ((was_fit g c).bytes honest) (long g c) (words honest)

  holds : (records : List Record) → IsLogText (slice_index_or c.args.resets.now.logs.items c.args.resets.now.next []) records → Holds g.D.Area (old g c) records
  holds records text honest = words-show g.D.Area (slice_index_or c.args.resets.now.logs.items c.args.resets.now.next []) records (old g c) text (reads honest)

pub returns-clause-fits : goal.returns-clause-fits
returns-clause-fits g c =
    on_ok c.close_log.result c.close_log.ensures.closing (λ closing.
    reset-fits g.D.Area c.args.geometry.now c.args.resets.now _ c.args.areas.now c.args.resets.now.next (old g c) c.close_log.new.area (was g c) c.requires.fits.0 c.close_log.ensures.device.honest c.close_log.ensures.device.same_length c.close_log.ensures.bytes c.requires.left
    (λ log area differ known. turned g.D.Area c.args.resets.now log area differ known) refl
    (λ alive. inr (inl (refl, refl, (λ records text. closing records (gate g c) (holds g c records text) alive)))))

pub returns-clause-shows : goal.returns-clause-shows
returns-clause-shows g c i alive =
    logs-show g.D.Area c.args.geometry.now c.args.resets.now c.args.areas.now c.args.resets.now.next (old g c) c.close_log.new.area (was g c) c.requires.left c.requires.fits.0 i alive
    (c.close_log.ensures.images (slice_index_or i.store.logs c.args.resets.now.next []) (gate g c) (holds g c (slice_index_or i.store.logs c.args.resets.now.next []) (i.texts.texts c.args.resets.now.next c.requires.left)))

pub close_log-requires : goal.close_log-requires
close_log-requires g c =
    let k = c.args.resets.now.next in
    let within : k < length c.args.areas.now = omega (arith, c.requires.left, c.requires.fits.0.count) in
    let was : slice_get c.args.areas.now k ≡ Some (get_or c.args.areas.now k c.index-areas-resets.result) = slice_get-get_or c.args.areas.now k c.index-areas-resets.result within in
    long_log g.D.Area c.args.geometry.now k (get_or c.args.areas.now k c.index-areas-resets.result) c.requires.left (c.requires.fits.0.each k (get_or c.args.areas.now k c.index-areas-resets.result) was).len
