use Rattle.std.proofs.Common.{refl, sym, subst}
use Rattle.lc_c.specs.Handing.{HandsStage}
use Rattle.lc_c.specs.declared.session_state.SessionState.TheVariants.{Open}
use Rattle.lc_c.proofs.session.Session.hand.Goals as goal

pub returns-in-Open-clause-hands : goal.returns-in-Open-clause-hands
returns-in-Open-clause-hands c =
    let after = c.hand_range.new.world in
    subst (λ s. HandsStage c.args.node c.args.thread c.args.range.now c.args.bytes.now s c.hand_range.result (Open after)) (sym c.in-Open.is) (after, refl, c.hand_range.ensures)
