use Rattle.std.proofs.Common.{◌∙◌, refl, sym, subst}
use Rattle.std.specs.Prelude.{Ok}
use Rattle.lc_c.specs.SessionState.{StartsStage}
use Rattle.lc_c.specs.declared.session_state.SessionState.TheVariants.{Open}
use Rattle.lc_c.proofs.session.Session.start.Goals as goal

pub returns-in-Ok-clause-starts : goal.returns-in-Ok-clause-starts
returns-in-Ok-clause-starts c =
    subst (λ s. StartsStage s (Ok tt) (Open c.in-Ok.world)) (sym c.in-Gathering.is ∙ c.replace.ensures.value) (c.in-Ok.world, refl, c.in-Ok.ensures.down)
