use Rattle.std.proofs.Common.{◌≡◌, ◌⊎◌, Ok, Err, sym, subst, inl}
use Rattle.std.specs.Prelude.{Result, IfErr}
use Rattle.lc_model.specs.Merge.{StoreText, MergesTo}
use Rattle.lc_recover.specs.Forecast.{Foretold}
use Rattle.lc_recover.specs.declared.fault.RecoverFault.{RecoverFault}
use Rattle.lc_recover.specs.declared.fault.RecoverFault.TheVariants.{DeviceFault, NoMemory}
use Rattle.lc_recover.proofs.surveying.survey_areas.Goals as goal

only_memory : (r : Result Foretold RecoverFault) → IfErr r (λ fault. fault ≡ NoMemory) → IfErr r (λ fault. (fault ≡ NoMemory) ⊎ (fault ≡ DeviceFault))
only_memory (Ok forecast) wants = tt
only_memory (Err fault) wants = inl wants

pub returns-clause-accepted : goal.returns-clause-accepted
returns-clause-accepted g c content numbers lengths honest merges =
    only_memory c.forecast.result (c.forecast.ensures.accepted content numbers (subst (λ (s : StoreText). MergesTo s content numbers) (sym (c.in_ok-read.ensures.read honest)) merges))
