use Rattle.std.proofs.Common.{◌≡◌, ◌∙◌, ◌<◌, ◌+◌, sym, ap, arith, length, get_or, Some}
use Rattle.std.specs.Prelude.{slice_get}
use Rattle.std.proofs.lemmas.Option.{slice_get-get_or}
use Rattle.lc_log.proofs.OneCalls.{sync_call}
use Rattle.lc_record.proofs.ListLemmas.{OnOk_then as on_ok}
use Rattle.lc_recover.proofs.AreaLemmas.{quiet-begins, quiet-bytes, quiet-merges, quiet-reads, one-call, fits-set, cleaner}
use Rattle.lc_recover.specs.RecoveryPhase.{Quiet}
use Rattle.lc_recover.specs.declared.recovery_phase.RecoveryPhase.TheVariants.{Syncing}
use Rattle.lc_recover.proofs.syncing.sync_area.Given.{Over}
use Rattle.lc_recover.proofs.syncing.sync_area.Goals as goal

module _ (g : Over) (c : goal.After-sync g) where
  abbrev old : g.row.D.Denot
  old = get_or c.args.areas.now c.args.synced c.index-areas-synced.result

  within : c.args.synced < length c.args.areas.now
  within = omega (arith, c.requires.1, c.requires.0.count)

  was : slice_get c.args.areas.now c.args.synced ≡ Some old
  was = slice_get-get_or c.args.areas.now c.args.synced c.index-areas-synced.result within

  quiet : Quiet g.D.Area old c.sync.new.self
  quiet = record { honest = c.sync.ensures.honest; len = c.sync.ensures.len; same = c.sync.ensures.same; clean = cleaner c.sync.result (g.D.Area.dirty old) (g.D.Area.dirty c.sync.new.self) c.sync.ensures.clean c.sync.ensures.same_dirty }

pub returns-clause-fits : goal.returns-clause-fits
returns-clause-fits g c =
    on_ok c.sync.result c.sync.ensures.clean (λ clean.
    fits-set g.D.Area c.args.geometry.now c.args.areas.now c.args.synced (old g c) c.sync.new.self (was g c) (Syncing c.args.synced) (Syncing (c.args.synced + 1)) c.requires.0
    (λ j area differ is f. record {
      len = f.len;
      bytes = f.bytes;
      log = λ honest less before. f.log honest less (omega (arith, before, differ));
      segment = λ honest more before. f.segment honest more (omega (arith, before, differ));
    })
    (record {
      len = ap Some c.sync.ensures.len ∙ (c.requires.0.each c.args.synced (old g c) (was g c)).len;
      bytes = quiet-bytes g.D.Area c.args.geometry.now (Syncing c.args.synced) c.args.synced (old g c) c.sync.new.self (c.requires.0.each c.args.synced (old g c) (was g c)) (quiet g c);
      log = λ honest less before. clean (sym c.sync.ensures.honest ∙ honest);
      segment = λ honest more before. clean (sym c.sync.ensures.honest ∙ honest);
    }))

pub returns-clause-areas : goal.returns-clause-areas
returns-clause-areas g c = quiet-begins g.D.Area c.args.geometry.now c.args.areas.now c.args.synced (old g c) c.sync.new.self (was g c) (Syncing c.args.synced) c.requires.0 (quiet g c)

pub returns-clause-call : goal.returns-clause-call
returns-clause-call g c = one-call g.D.Area c.args.geometry.now c.args.areas.now c.args.synced (old g c) c.sync.new.self (was g c) _
    (sync_call g.D.Area (old g c) c.sync.new.self c.sync.result c.sync.ensures.honest c.sync.ensures.len c.sync.ensures.called c.sync.ensures.counted c.sync.ensures.same c.sync.ensures.clean c.sync.ensures.same_dirty)

pub returns-clause-merges : goal.returns-clause-merges
returns-clause-merges g c content numbers = quiet-merges g.D.Area c.args.geometry.now c.args.areas.now c.args.synced (old g c) c.sync.new.self (was g c) content numbers (quiet g c)

pub returns-clause-reads : goal.returns-clause-reads
returns-clause-reads g c = quiet-reads g.D.Area c.args.geometry.now c.args.areas.now c.args.synced (old g c) c.sync.new.self (was g c) (quiet g c)
