use Rattle.std.proofs.Common.{◌≡◌, Err, refl, sym, ◌∙◌, ap, subst}
use Rattle.std.proofs.lemmas.Result.{IfErr-at_err, err_from_is_err_and}
use Rattle.lc_recover.specs.Fault.{IsRefusal}
use Rattle.lc_recover.specs.Forecast.{IsForecast}
use Rattle.lc_recover.specs.Reading.{store_of}
use Rattle.lc_recover.specs.Recovery.{HasPageToWrite}
use Rattle.lc_recover.specs.Survey.{Surveyed}
use Rattle.lc_recover.specs.declared.fault.RecoverFault.{RecoverFault}
use Rattle.lc_recover.specs.declared.fault.RecoverFault.TheVariants.{NoMemory}
use Rattle.lc_recover.proofs.AreasRead.{own-store, same-store}
use Rattle.lc_recover.proofs.Exclusive.{memory-wanted}
use Rattle.lc_recover.proofs.Foretelling.{foretold-from, its-forecast}
use Rattle.lc_recover.proofs.MergeStep.{few-pages, its-store, to-write}
use Rattle.lc_recover.proofs.survey.Survey.forecast.Goals as goal

pub merge-requires-clause-few_pages : goal.merge-requires-clause-few_pages
merge-requires-clause-few_pages c = few-pages c.self.inside.geometry c.self.invariant.bytes c.self.inside.read c.self.invariant.whole

-- Where the merge is refused

module _ (c : goal.After-drop-read-in_err-changes-3) where
  fault : (fault : RecoverFault) × (c.from_residual.result ≡ Err fault) × (fault ≡ c.in_err-changes.field-0.0)
  fault = (let p = err_from_is_err_and c.from_residual.result c.from_residual.ensures.1 in (p.0, p.1, p.2))

  refusal : IsRefusal c.args.self.store fault.0
  refusal =
      let own = own-store c.self.inside.geometry c.self.invariant.bytes c.self.inside.read c.self.invariant.whole in
      subst (λ (s : Surveyed). IsRefusal s.store fault.0) c.self.view_is
      (subst (λ (f : RecoverFault). IsRefusal (store_of c.self.inside.read.kept.logs.items c.self.inside.read.kept.segments.items) f) (sym fault.2) (c.in_err-changes.ensures.refused _ own))

pub returns-in_err-changes-clause-refused : goal.returns-in_err-changes-clause-refused
returns-in_err-changes-clause-refused c = rw (fault c).1 (refusal c)

pub returns-in_err-changes-clause-accepted : goal.returns-in_err-changes-clause-accepted
returns-in_err-changes-clause-accepted c content numbers merges = rw (fault c).1 (memory-wanted c.args.self.store (fault c).0 content numbers merges (refusal c))

pub returns-in_err-changes-clause-no_memory : goal.returns-in_err-changes-clause-no_memory
returns-in_err-changes-clause-no_memory c wants =
    let g = c.self.inside.geometry in
    let bytes = c.self.invariant.bytes in
    let read = c.self.inside.read in
    let is : NoMemory ≡ (fault c).0 = IfErr-at_err (λ (f : RecoverFault). f ≡ (fault c).0) (sym (fault c).1 ∙ wants) refl in
    let memory = c.merge.ensures.no_memory (c.in_err-changes.was ∙ ap Err (sym (is ∙ (fault c).2))) _ (its-store g bytes read c.self.invariant.whole) in
    subst (λ (s : Surveyed). HasPageToWrite s.store) c.self.view_is
    (subst HasPageToWrite (sym (same-store g bytes read c.self.invariant.whole)) (to-write g bytes read c.self.invariant.whole memory))

-- Where it is not

pub new-requires-2 : goal.new-requires-2
new-requires-2 c =
    foretold-from c.self.inside.geometry c.self.invariant.bytes c.self.inside.read c.self.invariant.whole c.merge.new.read.kept c.merge.ensures.kept c.merge.new.read.numbers c.in_ok-changes.changes
    c.in_ok-changes.ensures.merged c.new.result c.new.ensures

pub returns-clause-merged : goal.returns-clause-merged
returns-clause-merged c =
    subst IsForecast (sym c.new-2.ensures) (its-forecast c.self.inside.geometry c.new.result
    (foretold-from c.self.inside.geometry c.self.invariant.bytes c.self.inside.read c.self.invariant.whole c.merge.new.read.kept c.merge.ensures.kept c.merge.new.read.numbers c.in_ok-changes.changes
    c.in_ok-changes.ensures.merged c.new.result c.new.ensures))
