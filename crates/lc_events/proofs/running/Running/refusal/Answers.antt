use Rattle.std.proofs.Common.{List, length, get_or, sym, ap, subst, ◌∙◌}
use Rattle.std.specs.Prelude.{Option, nat_lt, is_some}
use Rattle.lc_model.specs.declared.refusal.Refusal.{Refusal}
use Rattle.lc_events.specs.Refuses.{RefusesFirst}
use Rattle.lc_events.specs.declared.node_state.NodeState.{NodeState}
use Rattle.lc_events.proofs.AtOnce.{first_by, first_unknown, outside_last}
use Rattle.lc_events.proofs.running.Running.refusal.Goals as goal

pub returns-in-Some : goal.returns-in-Some
returns-in-Some g c = λ event known acts.
    let w = c.args.self.now in
    let its = c.in-Some.its.now in
    let read = c.in-Some.ensures.lookup.1 ∙ ap (λ (nodes : List (NodeState g.row.D.Denot g.D.Area)). get_or nodes c.args.node its) c.deref.ensures.value in
    subst (λ (o : Option Refusal). RefusesFirst g.D.Area w event o) (sym c.then_some.ensures)
    (first_by g.D.Area w event (sym known ∙ c.if-known.true) c.args.node acts its read c.is_failed.result (sym c.is_failed.ensures))

pub returns-in_default : goal.returns-in_default
returns-in_default g c = λ event known acts. first_unknown g.D.Area c.args.self.now event (sym known ∙ c.if-known.false)

pub returns-in_default-2 : goal.returns-in_default-2
returns-in_default-2 g c = λ event known acts.
    let outside = sym c.get.ensures.lookup.0 ∙ ap is_some c.in_default.is in
    first_unknown g.D.Area c.args.self.now event (outside_last g.D.Area c.args.self.now event c.args.node acts (ap (λ (nodes : List (NodeState g.row.D.Denot g.D.Area)). nat_lt c.args.node (length nodes)) (sym c.deref.ensures.value) ∙ outside))
