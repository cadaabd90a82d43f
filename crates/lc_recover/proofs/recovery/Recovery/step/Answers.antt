use Rattle.std.proofs.Common.{◌≡◌, ◌+◌, ◌++◌, List, map, length, take, drop, refl, ◌∙◌, sym, ap, subst, arith, inl, inr, true, false, Err}
use Rattle.std.proofs.lemmas.Bool.{cases_eq}
use Rattle.std.proofs.lemmas.Result.{IfErr-at_err}
use Rattle.lc_recover.specs.Fault.{IsRefusal}
use Rattle.lc_recover.specs.Reads.{AreHonest, AreOfBytes, AllMergeTo, HaveLengths, store_of}
use Rattle.lc_recover.specs.Steps.{first_steps}
use Rattle.lc_recover.proofs.Exclusive.{merge-accepted}
use Rattle.lc_recover.proofs.StillHonest.{AsHonest, step-honest}
use Rattle.lc_recover.proofs.Going.{over-done, done-last, started, merges-carried, written-back, call-carried, reads-carried, clean-so_far}
use Rattle.lc_recover.proofs.StepsBound.{steps-bound}
use Rattle.lc_recover.proofs.Showing.{have-lengths}
use Rattle.lc_recover.specs.Recovery.{Recovering, recovering, HasPageToWrite, IsDone, IsLast, IsMergeNext, IsMerged, IsGoing, MergesRead, RefusesRead, Renews}
use Rattle.lc_recover.specs.declared.fault.RecoverFault.{RecoverFault}
use Rattle.lc_recover.specs.declared.fault.RecoverFault.TheVariants.{NoMemory}
use Rattle.lc_recover.specs.declared.recovery_phase.RecoveryPhase.{RecoveryPhase}
use Rattle.lc_recover.proofs.recovery.Recovery.step.Given.{Over}
use Rattle.lc_recover.proofs.recovery.Recovery.step.Goals as goal

pub advance-requires-clause-left : goal.advance-requires-clause-left
advance-requires-clause-left g c over =
    c.requires (subst (λ (r : Recovering g.row.D.Denot). IsDone r)
    (started c.self.inside.geometry c.as_mut_slice.result.now c.self.inside.areas.items c.replace-stage.result c.self.inside.stage c.args.self.now c.as_mut_slice.ensures.value c.replace-stage.ensures.value c.self.view_is)
    (over-done g.D.Area c.self.inside.geometry c.as_mut_slice.result.now c.replace-stage.result over))

-- The step is made

module _ (g : Over) (c : goal.After-progress g) where
  start : recovering c.self.inside.geometry c.as_mut_slice.result.now c.replace-stage.result ≡ c.args.self.now
  start = started c.self.inside.geometry c.as_mut_slice.result.now c.self.inside.areas.items c.replace-stage.result c.self.inside.stage c.args.self.now c.as_mut_slice.ensures.value c.replace-stage.ensures.value c.self.view_is

  after : take c.self.inside.areas.len (c.advance.new.areas ++ drop (length c.advance.new.areas) c.self.inside.areas.items) ≡ c.advance.new.areas
  after = written-back c.self.inside.areas.len c.advance.new.areas c.self.inside.areas.items (sym c.self.inside.areas.ok.0) (omega (arith, c.in-Ok.ensures.going.fits.0.count, c.self.invariant.fits.0.count, c.self.inside.areas.ok.0))

pub returns-in-Ok-clause-no_call : goal.returns-in-Ok-clause-no_call
returns-in-Ok-clause-no_call g c next =
    after g c
    ∙ c.in-Ok.ensures.no_call (subst (λ (r : Recovering g.row.D.Denot). IsMergeNext r) (sym (start g c)) next)
    ∙ ap (λ (r : Recovering g.row.D.Denot). r.areas) (start g c)

pub returns-in-Ok-clause-merges : goal.returns-in-Ok-clause-merges
returns-in-Ok-clause-merges g c content numbers =
    merges-carried g.D.Area c.self.inside.geometry c.as_mut_slice.result.now c.advance.new.areas (take c.self.inside.areas.len (c.advance.new.areas ++ drop (length c.advance.new.areas) c.self.inside.areas.items)) c.replace-stage.result c.args.self.now
    (start g c) (after g c) content numbers (c.in-Ok.ensures.merges content numbers)

pub returns-in-Ok-clause-clean : goal.returns-in-Ok-clause-clean
returns-in-Ok-clause-clean g c =
    clean-so_far g.D.Area c.self.inside.geometry c.in-Ok.stage (take c.self.inside.areas.len (c.advance.new.areas ++ drop (length c.advance.new.areas) c.self.inside.areas.items))
    (subst (λ (l : List g.row.D.Denot). IsGoing g.D.Area c.self.inside.geometry c.in-Ok.stage l) (sym (after g c)) c.in-Ok.ensures.going)

-- The step is not made

module _ (g : Over) (c : goal.Joined-self-stopped g) where
  start-stopped : recovering c.self.inside.geometry c.as_mut_slice.result.now c.replace-stage.result ≡ c.args.self.now
  start-stopped = started c.self.inside.geometry c.as_mut_slice.result.now c.self.inside.areas.items c.replace-stage.result c.self.inside.stage c.args.self.now c.as_mut_slice.ensures.value c.replace-stage.ensures.value c.self.view_is

  after-stopped : take c.self.inside.areas.len (c.advance.new.areas ++ drop (length c.advance.new.areas) c.self.inside.areas.items) ≡ c.advance.new.areas
  after-stopped = written-back c.self.inside.areas.len c.advance.new.areas c.self.inside.areas.items (sym c.self.inside.areas.ok.0) (omega (arith, c.in-Err.ensures.stopped.fits.0.count, c.self.invariant.fits.0.count, c.self.inside.areas.ok.0))

pub returns-in-Err-clause-merges : goal.returns-in-Err-clause-merges
returns-in-Err-clause-merges g c content numbers =
    merges-carried g.D.Area c.self.inside.geometry c.as_mut_slice.result.now c.advance.new.areas (take c.self.inside.areas.len (c.advance.new.areas ++ drop (length c.advance.new.areas) c.self.inside.areas.items)) c.replace-stage.result c.args.self.now
    (start-stopped g c) (after-stopped g c) content numbers (c.in-Err.ensures.merges content numbers)

pub returns-in-Err-clause-clean : goal.returns-in-Err-clause-clean
returns-in-Err-clause-clean g c =
    clean-so_far g.D.Area c.self.inside.geometry c.in-Err.stopped.stage (take c.self.inside.areas.len (c.advance.new.areas ++ drop (length c.advance.new.areas) c.self.inside.areas.items))
    (subst (λ (l : List g.row.D.Denot). IsGoing g.D.Area c.self.inside.geometry c.in-Err.stopped.stage l) (sym (after-stopped g c)) c.in-Err.ensures.stopped)

pub returns-in-Ok-clause-call : goal.returns-in-Ok-clause-call
returns-in-Ok-clause-call g c not_merge other =
    call-carried g.D.Area c.self.inside.geometry c.as_mut_slice.result.now c.advance.new.areas (take c.self.inside.areas.len (c.advance.new.areas ++ drop (length c.advance.new.areas) c.self.inside.areas.items)) c.replace-stage.result c.args.self.now true
    (start g c) (after g c) (c.in-Ok.ensures.called (λ next. not_merge (subst (λ (r : Recovering g.row.D.Denot). IsMergeNext r) (start g c) next)))

pub returns-in-Err-clause-call : goal.returns-in-Err-clause-call
returns-in-Err-clause-call g c not_merge other =
    elim (c.in-Err.ensures.failed (λ next. not_merge (subst (λ (r : Recovering g.row.D.Denot). IsMergeNext r) (start-stopped g c) next))) [
      | inl wants ↦ absurd (other (ap Err wants))
      | inr failed ↦
          call-carried g.D.Area c.self.inside.geometry c.as_mut_slice.result.now c.advance.new.areas (take c.self.inside.areas.len (c.advance.new.areas ++ drop (length c.advance.new.areas) c.self.inside.areas.items)) c.replace-stage.result c.args.self.now false
          (start-stopped g c) (after-stopped g c) failed.1
    ]

pub returns-in-Ok-clause-merged : goal.returns-in-Ok-clause-merged
returns-in-Ok-clause-merged g c next honest =
    let here : IsMergeNext (recovering c.self.inside.geometry c.as_mut_slice.result.now c.replace-stage.result) = subst (λ (r : Recovering g.row.D.Denot). IsMergeNext r) (sym (start g c)) next in
    subst (λ (l : List g.row.D.Denot). IsMerged g.D.Area (recovering c.self.inside.geometry l c.in-Ok.stage)) (sym (after g c ∙ c.in-Ok.ensures.no_call here))
    (c.in-Ok.ensures.merged here (subst (λ (r : Recovering g.row.D.Denot). AreHonest g.D.Area r.areas) (sym (start g c)) honest))

pub returns-in-Ok-clause-keeps : goal.returns-in-Ok-clause-keeps
returns-in-Ok-clause-keeps g c not_merge honest =
    subst (λ (l : List g.row.D.Denot). Renews g.D.Area c.args.self.now (recovering c.self.inside.geometry l c.in-Ok.stage)) (sym (after g c))
    (subst (λ (r : Recovering g.row.D.Denot). Renews g.D.Area r (recovering c.self.inside.geometry c.advance.new.areas c.in-Ok.stage)) (start g c)
    (c.in-Ok.ensures.keeps (λ next. not_merge (subst (λ (r : Recovering g.row.D.Denot). IsMergeNext r) (start g c) next))
    (subst (λ (l : List g.row.D.Denot). AreHonest g.D.Area l) (after g c) honest)))

pub returns-in-Ok-clause-lengths : goal.returns-in-Ok-clause-lengths
returns-in-Ok-clause-lengths g c =
    subst (λ (l : List g.row.D.Denot). HaveLengths g.D.Area c.self.inside.geometry l) (sym (after g c))
    (have-lengths g.D.Area c.self.inside.geometry c.in-Ok.stage c.advance.new.areas c.in-Ok.ensures.going.fits.0)

pub returns-in-Err-clause-lengths : goal.returns-in-Err-clause-lengths
returns-in-Err-clause-lengths g c =
    subst (λ (l : List g.row.D.Denot). HaveLengths g.D.Area c.self.inside.geometry l) (sym (after-stopped g c))
    (have-lengths g.D.Area c.self.inside.geometry c.in-Err.stopped.stage c.advance.new.areas c.in-Err.ensures.stopped.fits.0)

-- The areas hold bytes, and are as honest as they were

pub returns-in-Ok-clause-bytes : goal.returns-in-Ok-clause-bytes
returns-in-Ok-clause-bytes g c =
    subst (λ (l : List g.row.D.Denot). AreOfBytes g.D.Area l) (sym (after g c)) (λ k device is. (c.in-Ok.ensures.going.fits.0.each k device is).bytes)

pub returns-in-Err-clause-bytes : goal.returns-in-Err-clause-bytes
returns-in-Err-clause-bytes g c =
    subst (λ (l : List g.row.D.Denot). AreOfBytes g.D.Area l) (sym (after-stopped g c)) (λ k device is. (c.in-Err.ensures.stopped.fits.0.each k device is).bytes)

module _ (g : Over) (c : goal.After-progress g) where
  as_honest : AsHonest g.D.Area c.args.self.now.areas (take c.self.inside.areas.len (c.advance.new.areas ++ drop (length c.advance.new.areas) c.self.inside.areas.items))
  as_honest =
      subst (λ (l : List g.row.D.Denot). AsHonest g.D.Area c.args.self.now.areas l) (sym (after g c))
      (subst (λ (r : Recovering g.row.D.Denot). AsHonest g.D.Area r.areas c.advance.new.areas) (start g c)
      (step-honest g.D.Area (recovering c.self.inside.geometry c.as_mut_slice.result.now c.replace-stage.result) c.advance.new.areas
      c.in-Ok.ensures.no_call (λ not_merge. inr (true, c.in-Ok.ensures.called not_merge))))

module _ (g : Over) (c : goal.Joined-self-stopped g) where
  as_honest-stopped : AsHonest g.D.Area c.args.self.now.areas (take c.self.inside.areas.len (c.advance.new.areas ++ drop (length c.advance.new.areas) c.self.inside.areas.items))
  as_honest-stopped =
      subst (λ (l : List g.row.D.Denot). AsHonest g.D.Area c.args.self.now.areas l) (sym (after-stopped g c))
      (subst (λ (r : Recovering g.row.D.Denot). AsHonest g.D.Area r.areas c.advance.new.areas) (start-stopped g c)
      (step-honest g.D.Area (recovering c.self.inside.geometry c.as_mut_slice.result.now c.replace-stage.result) c.advance.new.areas
      c.in-Err.ensures.no_call (λ not_merge.
      elim (c.in-Err.ensures.failed not_merge) [
        | inl wants ↦ inl (ap (λ (r : Recovering g.row.D.Denot). r.areas) (c.in-Err.ensures.no_memory wants).1)
        | inr failed ↦ inr (false, failed.1)
      ])))

pub returns-in-Ok-clause-honest : goal.returns-in-Ok-clause-honest
returns-in-Ok-clause-honest g c = (as_honest g c).0

pub returns-in-Ok-clause-honest_before : goal.returns-in-Ok-clause-honest_before
returns-in-Ok-clause-honest_before g c = (as_honest g c).1

pub returns-in-Err-clause-honest : goal.returns-in-Err-clause-honest
returns-in-Err-clause-honest g c = (as_honest-stopped g c).0

pub returns-in-Err-clause-honest_before : goal.returns-in-Err-clause-honest_before
returns-in-Err-clause-honest_before g c = (as_honest-stopped g c).1

-- Only memory is wanted of what merges, or the device fails

pub returns-in-Err-clause-accepted : goal.returns-in-Err-clause-accepted
returns-in-Err-clause-accepted g c content numbers honest merges =
    let r : Recovering g.row.D.Denot = recovering c.self.inside.geometry c.as_mut_slice.result.now c.replace-stage.result in
    elim (cases_eq (r.steps + 1) (first_steps r.geometry)) [
      | inl next ↦
          let own : AreHonest g.D.Area r.areas = subst (λ (v : Recovering g.row.D.Denot). AreHonest g.D.Area v.areas) (sym (start-stopped g c)) honest in
          let hold : AreOfBytes g.D.Area r.areas = subst (λ (v : Recovering g.row.D.Denot). AreOfBytes g.D.Area v.areas) (c.self.view_is ∙ sym (start-stopped g c)) (λ k device is. (c.self.invariant.fits.0.each k device is).bytes) in
          let merge : AllMergeTo g.D.Area r.geometry r.areas content numbers = subst (λ (v : Recovering g.row.D.Denot). AllMergeTo g.D.Area v.geometry v.areas content numbers) (sym (start-stopped g c)) merges in
          inl (merge-accepted g.D.Area r.geometry r.areas c.in-Err.stopped.fault content numbers own hold merge (c.in-Err.ensures.refused next own))
      | inr other ↦
          (elim (c.in-Err.ensures.failed other) [
            | inl wants ↦ inl wants
            | inr failed ↦ inr failed.0
          ])
    ]

pub returns-in-Ok-clause-last : goal.returns-in-Ok-clause-last
returns-in-Ok-clause-last g c done =
    subst (λ (r : Recovering g.row.D.Denot). IsLast r) (start g c)
    (done-last g.D.Area c.self.inside.geometry c.as_mut_slice.result.now c.replace-stage.result c.in-Ok.stage c.advance.new.areas
    (subst (λ (l : List g.row.D.Denot). IsGoing g.D.Area c.self.inside.geometry c.replace-stage.result l) (ap (λ (r : Recovering g.row.D.Denot). r.areas) (c.self.view_is ∙ sym (start g c)))
    (subst (λ (stage : RecoveryPhase). IsGoing g.D.Area c.self.inside.geometry stage c.self.inside.areas.items) (sym c.replace-stage.ensures.value) c.self.invariant))
    c.in-Ok.ensures.pages c.in-Ok.ensures.steps done)

-- So many steps are done at most

pub returns-in-Ok-clause-bound : goal.returns-in-Ok-clause-bound
returns-in-Ok-clause-bound g c = steps-bound g.D.Area c.self.inside.geometry c.advance.new.areas c.in-Ok.stage c.in-Ok.ensures.going

pub returns-in-Err-clause-bound : goal.returns-in-Err-clause-bound
returns-in-Err-clause-bound g c = steps-bound g.D.Area c.self.inside.geometry c.advance.new.areas c.in-Err.stopped.stage c.in-Err.ensures.stopped

-- What the areas read as stays before the merge

pub returns-in-Ok-clause-reads : goal.returns-in-Ok-clause-reads
returns-in-Ok-clause-reads g c =
    reads-carried g.D.Area c.self.inside.geometry c.as_mut_slice.result.now c.advance.new.areas (take c.self.inside.areas.len (c.advance.new.areas ++ drop (length c.advance.new.areas) c.self.inside.areas.items)) c.replace-stage.result c.args.self.now
    (start g c) (after g c) c.in-Ok.ensures.reads

pub returns-in-Err-clause-reads : goal.returns-in-Err-clause-reads
returns-in-Err-clause-reads g c =
    reads-carried g.D.Area c.self.inside.geometry c.as_mut_slice.result.now c.advance.new.areas (take c.self.inside.areas.len (c.advance.new.areas ++ drop (length c.advance.new.areas) c.self.inside.areas.items)) c.replace-stage.result c.args.self.now
    (start-stopped g c) (after-stopped g c) c.in-Err.ensures.reads

-- The merge wants memory

pub returns-in-Err-clause-no_memory_merged : goal.returns-in-Err-clause-no_memory_merged
returns-in-Err-clause-no_memory_merged g c wants =
    let fault : c.in-Err.stopped.fault ≡ NoMemory = sym (IfErr-at_err (λ (f : RecoverFault). f ≡ c.in-Err.stopped.fault) wants refl) in
    subst (λ (r : Recovering g.row.D.Denot). IsMergeNext r → AreHonest g.D.Area r.areas → HasPageToWrite (store_of r.geometry (map g.D.Area.now r.areas))) (start-stopped g c)
    (c.in-Err.ensures.no_memory_merged fault)

-- What was read, whatever the areas are

pub returns-in-Ok-clause-told : goal.returns-in-Ok-clause-told
returns-in-Ok-clause-told g c next =
    subst (λ (r : Recovering g.row.D.Denot). MergesRead r.geometry) (start g c)
    (c.in-Ok.ensures.told (subst (λ (r : Recovering g.row.D.Denot). IsMergeNext r) (sym (start g c)) next))

pub returns-in-Err-clause-told_refused : goal.returns-in-Err-clause-told_refused
returns-in-Err-clause-told_refused g c next =
    subst (λ (r : Recovering g.row.D.Denot). RefusesRead r.geometry c.in-Err.stopped.fault) (start-stopped g c)
    (c.in-Err.ensures.told_refused (subst (λ (r : Recovering g.row.D.Denot). IsMergeNext r) (sym (start-stopped g c)) next))

pub returns-in-Err-clause-refused : goal.returns-in-Err-clause-refused
returns-in-Err-clause-refused g c =
    subst (λ (r : Recovering g.row.D.Denot). IsMergeNext r → AreHonest g.D.Area r.areas → IsRefusal (store_of r.geometry (map g.D.Area.now r.areas)) c.in-Err.stopped.fault) (start-stopped g c)
    c.in-Err.ensures.refused
