-- Of the store: which replies an event may get at all, kind by kind.
use Rattle.std.proofs.Common.{◌≡◌, true, refl}
use Rattle.std.specs.Prelude.{is_some}
use Rattle.lc_model.specs.Refusals.{named}
use Rattle.lc_model.specs.declared.event.Event.{Event}
use Rattle.lc_model.specs.declared.event.Event.TheVariants.{Stop, RecoverStep}
use Rattle.lc_core.specs.Stepping.{works_up}

pub works_acts : (event : Event) → works_up event ≡ true → is_some (named event) ≡ true
works_acts (Stop choices) works = absurd cc
works_acts RecoverStep works = absurd cc
works_acts event works = refl
