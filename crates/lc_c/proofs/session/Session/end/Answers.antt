use Rattle.std.proofs.Common.{refl, sym, subst}
use Rattle.lc_c.specs.Handing.{EndsStage}
use Rattle.lc_c.specs.declared.session_state.SessionState.TheVariants.{Open}
use Rattle.lc_c.proofs.session.Session.end.Goals as goal

pub returns-in-Open-clause-ends : goal.returns-in-Open-clause-ends
returns-in-Open-clause-ends c =
    let after = c.end.new.self in
    subst (λ s. EndsStage c.args.node c.args.thread s c.end.result (Open after)) (sym c.in-Open.is) (after, refl, c.end.ensures)
