use Rattle.std.proofs.Common.{◌≡◌, ◌+◌, ◌≤◌, ◌*◌, ℕ, List, refl, sym, ◌∙◌, ap, subst, Err, None, length}
use Rattle.std.proofs.lemmas.Option.{same_Some as one_item}
use Rattle.lc_recover.specs.KeptAreas.{IsReadWhole}
use Rattle.lc_recover.specs.Merging.{IsMergedFrom}
use Rattle.lc_recover.specs.Reads.{area_count}
use Rattle.lc_recover.specs.Steps.{all_pages}
use Rattle.lc_recover.specs.declared.store_contents.StoreContents.{StoreContents}
use Rattle.lc_recover.specs.declared.page_writes.PageWrites.{PageWrites}
use Rattle.lc_recover.proofs.AreaLemmas.{begins}
use Rattle.lc_recover.proofs.Going.{all-read}
use Rattle.lc_recover.proofs.MergedFits.{merged-fit, merged-stage, merged-few}
use Rattle.lc_recover.proofs.MergeStep.{few-logs, few-segments, few-pages, its-store, to-write, merged-from}
use Rattle.lc_recover.proofs.StoppedFits.{stopped-fits, same-read}
use Rattle.lc_recover.specs.declared.recovery_phase.RecoveryPhase.TheVariants.{Reading}
use Rattle.lc_recover.proofs.advance.merge_step.Given.{Over}
use Rattle.lc_recover.proofs.advance.merge_step.Goals as goal

pub merge-requires-clause-few_logs : goal.merge-requires-clause-few_logs
merge-requires-clause-few_logs g c = few-logs c.args.geometry.now c.requires.fits.1.0 c.args.read (all-read g.D.Area c.args.geometry.now c.args.areas.now c.args.read c.requires.fits c.requires.all)

pub merge-requires-clause-few_segments : goal.merge-requires-clause-few_segments
merge-requires-clause-few_segments g c = few-segments c.args.geometry.now c.requires.fits.1.0 c.args.read (all-read g.D.Area c.args.geometry.now c.args.areas.now c.args.read c.requires.fits c.requires.all)

pub merge-requires-clause-few_pages : goal.merge-requires-clause-few_pages
merge-requires-clause-few_pages g c = few-pages c.args.geometry.now c.requires.fits.1.0 c.args.read (all-read g.D.Area c.args.geometry.now c.args.areas.now c.args.read c.requires.fits c.requires.all)

pub merge-requires-clause-counted : goal.merge-requires-clause-counted
merge-requires-clause-counted g c = c.requires.fits.1.3

module _ (g : Over) (c : goal.After-new g) where
  from : (areas : List (List ℕ)) → IsReadWhole c.args.geometry.now areas c.args.read → IsMergedFrom c.args.geometry.now areas c.new.result
  from areas whole =
      let same : (record { kept = c.args.read.kept; merged = record { numbers = c.merge.new.read.numbers; changes = c.in-Ok.changes }; next = 0; written = 0; current = None }) ≡ c.new.result =
      ap (λ (k : StoreContents). let w : PageWrites = record { kept = k; merged = record { numbers = c.merge.new.read.numbers; changes = c.in-Ok.changes }; next = 0; written = 0; current = None } in w) (sym c.merge.ensures.kept) ∙ sym c.new.ensures in
      subst (λ (w : PageWrites). IsMergedFrom c.args.geometry.now areas w) same
      (merged-from c.args.geometry.now areas c.args.read whole c.merge.new.read.numbers c.in-Ok.changes c.in-Ok.ensures.merged)

  whole : IsReadWhole c.args.geometry.now c.requires.fits.1.0 c.args.read
  whole = all-read g.D.Area c.args.geometry.now c.args.areas.now c.args.read c.requires.fits c.requires.all

  own : IsMergedFrom c.args.geometry.now c.requires.fits.1.0 c.new.result
  own = from c.requires.fits.1.0 whole

pub returns-in-Ok-clause-fits : goal.returns-in-Ok-clause-fits
returns-in-Ok-clause-fits g c = (
  merged-fit c.args.geometry.now c.requires.fits.1.0 c.new.result (own g c) g.D.Area c.args.areas.now c.args.read c.requires.fits.0 (ap (λ (w : PageWrites). w.kept) c.new.ensures ∙ c.merge.ensures.kept),
  (own g c).sound,
)

pub returns-in-Ok-clause-merged : goal.returns-in-Ok-clause-merged
returns-in-Ok-clause-merged g c areas all = merged-stage c.args.geometry.now areas c.new.result (from g c areas all) all.count

pub returns-in-Ok-clause-few : goal.returns-in-Ok-clause-few
returns-in-Ok-clause-few g c pages is =
    subst (λ (n : ℕ). n ≤ c.args.geometry.now.segments * c.args.geometry.now.pages) (one_item (all_pages c.new.result) pages is)
    (merged-few c.args.geometry.now c.requires.fits.1.0 c.new.result (own g c))

pub returns-in-Err-clause-stopped : goal.returns-in-Err-clause-stopped
returns-in-Err-clause-stopped g c =
    stopped-fits g.D.Area c.args.geometry.now c.args.areas.now c.args.areas.now (Reading c.args.read) (Reading c.merge.new.read) c.new-in-Err.result
    (begins g.D.Area c.args.geometry.now (Reading c.args.read) c.args.areas.now c.requires.fits.0)
    (λ wants. (
      refl,
      same-read g.D.Area c.args.geometry.now c.args.areas.now c.args.read c.merge.new.read (ap (λ (k : StoreContents). k.logs.items) c.merge.ensures.kept) (ap (λ (k : StoreContents). k.segments.items) c.merge.ensures.kept)
          c.in-Err.ensures.counted c.requires.fits,
    ))
    tt refl refl refl
    (λ wants. ap (λ (k : StoreContents). area_count c.args.geometry.now + (length k.logs.items + length k.segments.items)) c.merge.ensures.kept)
    (λ wants. c.new-in-Err.ensures.kept (sym c.new-in-Err.ensures.fault ∙ wants))
    (λ other. c.new-in-Err.ensures.again (λ wants. other (c.new-in-Err.ensures.fault ∙ wants)))

pub returns-in-Err-clause-refused : goal.returns-in-Err-clause-refused
returns-in-Err-clause-refused g c areas all = rw c.new-in-Err.ensures.fault (c.in-Err.ensures.refused _ (its-store c.args.geometry.now areas c.args.read all))

pub returns-in-Err-clause-no_memory : goal.returns-in-Err-clause-no_memory
returns-in-Err-clause-no_memory g c wants areas all =
    to-write c.args.geometry.now areas c.args.read all
    (c.merge.ensures.no_memory (c.in-Err.is ∙ ap Err (sym c.new-in-Err.ensures.fault ∙ wants)) _ (its-store c.args.geometry.now areas c.args.read all))
