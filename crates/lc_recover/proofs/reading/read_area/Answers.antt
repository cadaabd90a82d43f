use Rattle.std.proofs.Common.{is_ok, ◌≡◌, ◌∙◌, ◌*◌, ◌<◌, ℕ, subst, arith, length, get_or, Some}
use Rattle.std.specs.Prelude.{slice_get, slice_set}
use Rattle.std.proofs.lemmas.Option.{slice_get-get_or, same_Some as one_item}
use Rattle.lc_recover.specs.KeptAreas.{read_count}
use Rattle.lc_recover.specs.RecoveryPhase.{OneCall}
use Rattle.lc_recover.proofs.AreaLemmas.{on_ok, one-call, quiet-begins, quiet-merges, quiet-reads}
use Rattle.lc_recover.proofs.Images.{len-segment}
use Rattle.lc_recover.proofs.ReadSteps.{log-read, segment-read}
use Rattle.lc_recover.proofs.AreasRead.{left-set, log-more, segment-more, still-honest}
use Rattle.lc_recover.proofs.reading.read_area.Given.{Over}
use Rattle.lc_recover.proofs.reading.read_area.Goals as goal
use Rattle.lc_recover.proofs.reading.read_area.Goals.{After-read_log, After-read_segment}

pub read_segment-requires : goal.read_segment-requires
read_segment-requires g c =
    let k : ℕ = c.count-place.result in
    let within : c.count-place.result < length c.args.areas.now = omega (arith, c.requires.left, c.count-place.ensures) in
    let old = get_or c.args.areas.now c.count-place.result c.index-areas-place-else-place-geometry.result in
    let was : slice_get c.args.areas.now c.count-place.result ≡ Some old = slice_get-get_or c.args.areas.now c.count-place.result c.index-areas-place-else-place-geometry.result within in
    let long : length (g.D.Area.now old) ≡ 2 * 272 * c.args.geometry.now.pages =
    one_item (length (g.D.Area.now old)) (2 * 272 * c.args.geometry.now.pages)
    ((c.requires.areas.each k old was).len ∙ len-segment c.args.geometry.now k (omega (arith, c.if-place-geometry.false)) (omega (arith, within, c.requires.areas.count))) in
    omega (arith, long)

module _ (g : Over) (c : After-read_log g) where
  abbrev log_old : g.row.D.Denot
  log_old = get_or c.args.areas.now c.count-place.result c.index-areas-place.result

  log_place : c.count-place.result ≡ read_count c.args.read.now
  log_place = c.count-place.ensures

  log_was : slice_get c.args.areas.now c.count-place.result ≡ Some log_old
  log_was = slice_get-get_or c.args.areas.now c.count-place.result c.index-areas-place.result (omega (arith, c.requires.left, c.count-place.ensures))

pub returns-then-place-geometry-clause-fits : goal.returns-then-place-geometry-clause-fits
returns-then-place-geometry-clause-fits g c =
    on_ok c.read_log.result _ _ c.read_log.ensures.read
    (λ adds fits. log-read g.D.Area c.args.geometry.now c.args.areas.now c.args.read.now c.read_log.new.read fits c.count-place.result (log_place g c) (log_old g c) c.read_log.new.area (log_was g c) c.read_log.ensures.quiet
    (omega (arith, c.if-place-geometry.true)) adds)

pub returns-then-place-geometry-clause-read : goal.returns-then-place-geometry-clause-read
returns-then-place-geometry-clause-read g c =
    on_ok c.read_log.result _ _ c.read_log.ensures.read
    (λ adds of. log-more g.D.Area c.args.geometry.now c.args.areas.now c.args.read.now c.read_log.new.read of c.count-place.result (log_place g c) c.requires.areas (log_old g c) c.read_log.new.area (log_was g c) c.read_log.ensures.quiet
    (omega (arith, c.if-place-geometry.true)) adds)

pub returns-then-place-geometry-clause-areas : goal.returns-then-place-geometry-clause-areas
returns-then-place-geometry-clause-areas g c =
    quiet-begins g.D.Area c.args.geometry.now c.args.areas.now c.count-place.result (log_old g c) c.read_log.new.area (log_was g c) _ c.requires.areas c.read_log.ensures.quiet

pub returns-then-place-geometry-clause-call : goal.returns-then-place-geometry-clause-call
returns-then-place-geometry-clause-call g c some =
    subst (λ (k : ℕ). OneCall g.D.Area k c.args.areas.now (slice_set c.args.areas.now c.count-place.result c.read_log.new.area) (is_ok c.read_log.result)) (log_place g c)
    (one-call g.D.Area c.args.geometry.now c.args.areas.now c.count-place.result (log_old g c) c.read_log.new.area (log_was g c) (is_ok c.read_log.result) (c.read_log.ensures.call some))

pub returns-then-place-geometry-clause-merges : goal.returns-then-place-geometry-clause-merges
returns-then-place-geometry-clause-merges g c content numbers =
    quiet-merges g.D.Area c.args.geometry.now c.args.areas.now c.count-place.result (log_old g c) c.read_log.new.area (log_was g c) content numbers c.read_log.ensures.quiet

pub returns-then-place-geometry-clause-reads : goal.returns-then-place-geometry-clause-reads
returns-then-place-geometry-clause-reads g c =
    quiet-reads g.D.Area c.args.geometry.now c.args.areas.now c.count-place.result (log_old g c) c.read_log.new.area (log_was g c) c.read_log.ensures.quiet

module _ (g : Over) (c : After-read_segment g) where
  abbrev segment_old : g.row.D.Denot
  segment_old = get_or c.args.areas.now c.count-place.result c.index-areas-place-else-place-geometry.result

  segment_place : c.count-place.result ≡ read_count c.args.read.now
  segment_place = c.count-place.ensures

  segment_was : slice_get c.args.areas.now c.count-place.result ≡ Some segment_old
  segment_was = slice_get-get_or c.args.areas.now c.count-place.result c.index-areas-place-else-place-geometry.result (omega (arith, c.requires.left, c.count-place.ensures))

pub returns-else-place-geometry-clause-fits : goal.returns-else-place-geometry-clause-fits
returns-else-place-geometry-clause-fits g c =
    on_ok c.read_segment.result _ _ c.read_segment.ensures.read
    (λ adds fits. segment-read g.D.Area c.args.geometry.now c.args.areas.now c.args.read.now c.read_segment.new.read fits c.count-place.result (segment_place g c) (segment_old g c) c.read_segment.new.area (segment_was g c) c.read_segment.ensures.quiet
    (omega (arith, c.if-place-geometry.false)) adds)

pub returns-else-place-geometry-clause-read : goal.returns-else-place-geometry-clause-read
returns-else-place-geometry-clause-read g c =
    on_ok c.read_segment.result _ _ c.read_segment.ensures.read
    (λ adds of. segment-more g.D.Area c.args.geometry.now c.args.areas.now c.args.read.now c.read_segment.new.read of c.count-place.result (segment_place g c) c.requires.areas (segment_old g c) c.read_segment.new.area (segment_was g c) c.read_segment.ensures.quiet
    (omega (arith, c.if-place-geometry.false)) adds)

pub returns-else-place-geometry-clause-areas : goal.returns-else-place-geometry-clause-areas
returns-else-place-geometry-clause-areas g c =
    quiet-begins g.D.Area c.args.geometry.now c.args.areas.now c.count-place.result (segment_old g c) c.read_segment.new.area (segment_was g c) _ c.requires.areas c.read_segment.ensures.quiet

pub returns-else-place-geometry-clause-call : goal.returns-else-place-geometry-clause-call
returns-else-place-geometry-clause-call g c some =
    subst (λ (k : ℕ). OneCall g.D.Area k c.args.areas.now (slice_set c.args.areas.now c.count-place.result c.read_segment.new.area) (is_ok c.read_segment.result)) (segment_place g c)
    (one-call g.D.Area c.args.geometry.now c.args.areas.now c.count-place.result (segment_old g c) c.read_segment.new.area (segment_was g c) (is_ok c.read_segment.result) (c.read_segment.ensures.call some))

pub returns-else-place-geometry-clause-merges : goal.returns-else-place-geometry-clause-merges
returns-else-place-geometry-clause-merges g c content numbers =
    quiet-merges g.D.Area c.args.geometry.now c.args.areas.now c.count-place.result (segment_old g c) c.read_segment.new.area (segment_was g c) content numbers c.read_segment.ensures.quiet

pub returns-else-place-geometry-clause-reads : goal.returns-else-place-geometry-clause-reads
returns-else-place-geometry-clause-reads g c =
    quiet-reads g.D.Area c.args.geometry.now c.args.areas.now c.count-place.result (segment_old g c) c.read_segment.new.area (segment_was g c) c.read_segment.ensures.quiet

pub returns-then-place-geometry-clause-honest : goal.returns-then-place-geometry-clause-honest
returns-then-place-geometry-clause-honest g c =
    still-honest g.D.Area c.args.geometry.now c.args.areas.now c.count-place.result (log_old g c) c.read_log.new.area (log_was g c) c.read_log.ensures.quiet

pub returns-else-place-geometry-clause-honest : goal.returns-else-place-geometry-clause-honest
returns-else-place-geometry-clause-honest g c =
    still-honest g.D.Area c.args.geometry.now c.args.areas.now c.count-place.result (segment_old g c) c.read_segment.new.area (segment_was g c) c.read_segment.ensures.quiet

pub returns-then-place-geometry-clause-left : goal.returns-then-place-geometry-clause-left
returns-then-place-geometry-clause-left g c =
    left-set g.D.Area c.args.geometry.now c.args.areas.now c.count-place.result (log_old g c) c.read_log.new.area (log_was g c) c.read_log.ensures.left

pub returns-else-place-geometry-clause-left : goal.returns-else-place-geometry-clause-left
returns-else-place-geometry-clause-left g c =
    left-set g.D.Area c.args.geometry.now c.args.areas.now c.count-place.result (segment_old g c) c.read_segment.new.area (segment_was g c) c.read_segment.ensures.left
