use Rattle.std.proofs.Common.{refl, sym, subst}
use Rattle.lc_c.specs.Truncating.{TruncatesStage}
use Rattle.lc_c.specs.declared.session_state.SessionState.TheVariants.{Open}
use Rattle.lc_c.proofs.session_state.SessionState.truncate_step.Goals as goal

pub returns-in-Open : goal.returns-in-Open
returns-in-Open c =
    let after = c.truncate_step.new.self in let e = c.truncate_step.ensures in
    subst (λ s. TruncatesStage s c.args.truncation c.truncate_step.result (Open after)) (sym c.in-Open.is)
    (after, refl, record { remains = e.remains; one = e.one; fewer = e.fewer; node = e.node })
