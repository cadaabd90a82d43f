use Rattle.std.proofs.Common.{◌≡◌, length, map, false, true, sym, ap, subst, arith, inr}
use Rattle.std.specs.Prelude.{Result, Ok, Err, IfOk, IfErr}
use Rattle.std.proofs.lemmas.Result.{err_from_is_err_and}
use Rattle.lc_recover.proofs.Going.{all-read, merged-now, read-now}
use Rattle.lc_recover.proofs.ReadLemmas.{count-read}
use Rattle.lc_recover.specs.KeptAreas.{IsReadWhole, read_count}
use Rattle.lc_recover.specs.Reads.{AreHonest}
use Rattle.lc_recover.specs.declared.recovery_phase.RecoveryPhase.{RecoveryPhase}
use Rattle.lc_recover.specs.declared.stopped.Stopped.{Stopped}
use Rattle.lc_recover.specs.declared.recovery_phase.RecoveryPhase.TheVariants.{Reading}
use Rattle.lc_recover.specs.Recovery.{recovering, IsGoing, MakesItsCall}
use Rattle.lc_recover.proofs.advance.advance.Given.{Over}
use Rattle.lc_recover.proofs.advance.advance.Goals as goal

if_ok : {A B : Type 0} (r : Result A B) (P Q : A → Type 0) → IfOk r P → ((x : A) → P x → Q x) → IfOk r Q
if_ok (Ok x) P Q holds leads = leads x holds
if_ok (Err e) P Q holds leads = holds

if_err : {A B : Type 0} (r : Result A B) (P Q : B → Type 0) → IfErr r P → ((x : B) → P x → Q x) → IfErr r Q
if_err (Ok x) P Q holds leads = holds
if_err (Err e) P Q holds leads = leads e holds

module _ (g : Over) (c : goal.After-merge_step g) where
  going : IsGoing g.D.Area c.args.geometry.now (Reading c.in-Reading.read) c.args.areas.now
  going = subst (λ (s : RecoveryPhase). IsGoing g.D.Area c.args.geometry.now s c.args.areas.now) c.in-Reading.is c.requires.going

  all : read_count c.in-Reading.read ≡ length c.args.areas.now
  all = omega (arith, c.if-count-areas.false, c.count.ensures, count-read c.args.geometry.now going.fits.1.0 c.in-Reading.read going.fits.1.2, going.fits.0.count, going.fits.1.1.count)

  whole : AreHonest g.D.Area c.args.areas.now → IsReadWhole c.args.geometry.now (map g.D.Area.now c.args.areas.now) c.in-Reading.read
  whole honest = read-now g.D.Area c.args.geometry.now c.args.areas.now c.in-Reading.read going.fits honest all

  -- what was read, whatever the areas are
  own : IsReadWhole c.args.geometry.now going.fits.1.0 c.in-Reading.read
  own = all-read g.D.Area c.args.geometry.now c.args.areas.now c.in-Reading.read going.fits all

pub returns-else-count-areas-clause-told : goal.returns-else-count-areas-clause-told
returns-else-count-areas-clause-told g c = if_ok c.merge_step.result _ _ c.merge_step.ensures.merged (λ next merged here.
    let its = merged (going g c).fits.1.0 (own g c) in
    record {
      bytes = (going g c).fits.1.0;
      long = record { count = (own g c).count; lengths = (own g c).first.lengths };
      content = its.content;
      numbers = its.numbers;
      merges = its.merges;
    })

pub returns-else-count-areas-clause-told_refused : goal.returns-else-count-areas-clause-told_refused
returns-else-count-areas-clause-told_refused g c = if_err c.merge_step.result _ _ c.merge_step.ensures.refused (λ stopped refusal here. record {
  bytes = (going g c).fits.1.0;
  long = record { count = (own g c).count; lengths = (own g c).first.lengths };
  refuses = refusal (going g c).fits.1.0 (own g c);
})

pub returns-else-count-areas-clause-merged : goal.returns-else-count-areas-clause-merged
returns-else-count-areas-clause-merged g c =
    if_ok c.merge_step.result _ _ c.merge_step.ensures.merged
    (λ next merged here honest. merged-now g.D.Area c.args.geometry.now c.args.areas.now next (merged (map g.D.Area.now c.args.areas.now) (whole g c honest)))

pub returns-else-count-areas-clause-refused : goal.returns-else-count-areas-clause-refused
returns-else-count-areas-clause-refused g c =
    if_err c.merge_step.result _ _ c.merge_step.ensures.refused (λ stopped refusal here honest. refusal (map g.D.Area.now c.args.areas.now) (whole g c honest))

pub returns-else-count-areas-clause-no_memory_merged : goal.returns-else-count-areas-clause-no_memory_merged
returns-else-count-areas-clause-no_memory_merged g c =
    if_err c.merge_step.result _ _ c.merge_step.ensures.no_memory (λ stopped behind wants here honest. behind wants (map g.D.Area.now c.args.areas.now) (whole g c honest))

pub count-requires : goal.count-requires
count-requires g c =
    let going : IsGoing g.D.Area c.args.geometry.now (Reading c.in-Reading.read) c.args.areas.now =
    subst (λ (s : RecoveryPhase). IsGoing g.D.Area c.args.geometry.now s c.args.areas.now) c.in-Reading.is c.requires.going in
    omega (arith, count-read c.args.geometry.now going.fits.1.0 c.in-Reading.read going.fits.1.2, going.fits.1.1.count, c.args.geometry.now.few_nodes, c.args.geometry.now.few_segments)

pub returns-in_err-write_step-in-Writing-clause-failed : goal.returns-in_err-write_step-in-Writing-clause-failed
returns-in_err-write_step-in-Writing-clause-failed g c =
    let p = err_from_is_err_and c.from_residual-in_err-write_step-in-Writing.result c.from_residual-in_err-write_step-in-Writing.ensures.1 in
    rw p.1 (λ not_merge. inr (
      ap (λ (s : Stopped). s.fault) p.2,
      subst (λ (s : RecoveryPhase). MakesItsCall g.D.Area (recovering c.args.geometry.now c.args.areas.now s) c.write_step.new.areas false) (sym c.in-Writing.is) c.in_err-write_step-in-Writing.ensures.call,
    ))

pub returns-in_err-reset_step-in-Resetting-clause-failed : goal.returns-in_err-reset_step-in-Resetting-clause-failed
returns-in_err-reset_step-in-Resetting-clause-failed g c =
    let p = err_from_is_err_and c.from_residual-in_err-reset_step-in-Resetting.result c.from_residual-in_err-reset_step-in-Resetting.ensures.1 in
    rw p.1 (λ not_merge. inr (
      ap (λ (s : Stopped). s.fault) p.2,
      subst (λ (s : RecoveryPhase). MakesItsCall g.D.Area (recovering c.args.geometry.now c.args.areas.now s) c.reset_step.new.areas false) (sym c.in-Resetting.is) c.in_err-reset_step-in-Resetting.ensures.call,
    ))

pub returns-in_ok-write_step-in-Writing-clause-called : goal.returns-in_ok-write_step-in-Writing-clause-called
returns-in_ok-write_step-in-Writing-clause-called g c not_merge =
    subst (λ (s : RecoveryPhase). MakesItsCall g.D.Area (recovering c.args.geometry.now c.args.areas.now s) c.write_step.new.areas true) (sym c.in-Writing.is) c.in_ok-write_step-in-Writing.ensures.call

pub returns-in_ok-reset_step-in-Resetting-clause-called : goal.returns-in_ok-reset_step-in-Resetting-clause-called
returns-in_ok-reset_step-in-Resetting-clause-called g c not_merge =
    subst (λ (s : RecoveryPhase). MakesItsCall g.D.Area (recovering c.args.geometry.now c.args.areas.now s) c.reset_step.new.areas true) (sym c.in-Resetting.is) c.in_ok-reset_step-in-Resetting.ensures.call
