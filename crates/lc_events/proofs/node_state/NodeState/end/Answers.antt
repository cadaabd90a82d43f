use Rattle.std.proofs.Common.{Ok, Err, refl, ap, sym, subst, ◌∙◌, inl, inr}
use Rattle.std.proofs.lemmas.Option.{same_Some as same_some}
use Rattle.std.proofs.lemmas.Result.{err_from_is_err_and}
use Rattle.lc_model.specs.declared.event.Event.TheVariants.{Close}
use Rattle.lc_model.specs.declared.reply.Reply.{Reply}
use Rattle.lc_events.specs.Answered.{closed_at}
use Rattle.lc_events.specs.NodeSteps.{StepsNode}
use Rattle.lc_events.specs.declared.call_fault.CallFault.{CallFault}
use Rattle.lc_events.specs.declared.placement.Placement.{Placement}
use Rattle.lc_events.specs.declared.placement.Placement.TheVariants.{Record as HasRecord}
use Rattle.lc_events.proofs.EndCalls.{placed_node}
use Rattle.lc_events.proofs.Names.{answers_may}
use Rattle.lc_events.proofs.NodeSteps.{closed_steps}
use Rattle.lc_events.proofs.node_state.NodeState.end.Goals as goal

pub returns-in_default : goal.returns-in_default
returns-in_default g c = inl (record {
  none = tt;
  places = placed_node g.D.Area c.args.node c.args.thread c.args.self.now c.in_ok-reply.reply c.reserve.new.self c.in_ok-reply.ensures.follows c.reserve.ensures.whole c.in_ok-reply.ensures.names c.reserve.ensures.log c.placement.result _ (c.placement.ensures c.args.node c.args.thread) (c.in_ok-place.was ∙ ap (λ (p : Placement). Ok p) c.in_default.is);
})

pub returns-in_err-place : goal.returns-in_err-place
returns-in_err-place g c =
    let p = err_from_is_err_and c.from_residual-in_err-place.result c.from_residual-in_err-place.ensures.1 in
    rw p.1 (inl (record {
      none = tt;
      places = placed_node g.D.Area c.args.node c.args.thread c.args.self.now c.in_ok-reply.reply c.reserve.new.self c.in_ok-reply.ensures.follows c.reserve.ensures.whole c.in_ok-reply.ensures.names c.reserve.ensures.log c.placement.result (Err p.0) (c.placement.ensures c.args.node c.args.thread) (c.in_err-place.was ∙ ap (λ (f : CallFault). Err f) (sym p.2));
    }))

pub returns-in_err-done : goal.returns-in_err-done
returns-in_err-done g c =
    let event = Close c.args.node c.args.thread in
    let reply = c.close-closed.result in
    let p = err_from_is_err_and c.from_residual-in_err-done.result c.from_residual-in_err-done.ensures.1 in
    let steps = closed_steps g.D.Area c.args.node c.args.thread c.reserve.new.self reply c.close-closed.new.self (c.close-closed.ensures.follows c.args.node) c.close-closed.ensures.whole c.close-closed.ensures.names c.close-closed.ensures.log in
    inr (record {
      place = c.in-Record.place;
      words = c.in-Record.words;
      mid = c.reserve.new.self;
      closed = c.done.result;
      places = placed_node g.D.Area c.args.node c.args.thread c.args.self.now c.in_ok-reply.reply c.reserve.new.self c.in_ok-reply.ensures.follows c.reserve.ensures.whole c.in_ok-reply.ensures.names c.reserve.ensures.log c.placement.result _ (c.placement.ensures c.args.node c.args.thread) (c.in_ok-place.was ∙ ap (λ (q : Placement). Ok q) c.in-Record.is);
      closes = subst (λ (r : Reply). StepsNode g.D.Area c.args.node event c.reserve.new.self (Ok r) c.close-closed.new.self) (sym (same_some _ reply (c.done.ensures event refl (answers_may event reply c.close-closed.ensures.names)))) steps;
      is = p.1 ∙ ap (λ (f : CallFault). Err f) p.2 ∙ ap (λ r. closed_at r (HasRecord c.in-Record.place c.in-Record.words)) (sym c.in_err-done.was);
    })

pub returns : goal.returns
returns g c =
    let event = Close c.args.node c.args.thread in
    let reply = c.close-closed.result in
    let steps = closed_steps g.D.Area c.args.node c.args.thread c.reserve.new.self reply c.close-closed.new.self (c.close-closed.ensures.follows c.args.node) c.close-closed.ensures.whole c.close-closed.ensures.names c.close-closed.ensures.log in
    inr (record {
      place = c.in-Record.place;
      words = c.in-Record.words;
      mid = c.reserve.new.self;
      closed = c.done.result;
      places = placed_node g.D.Area c.args.node c.args.thread c.args.self.now c.in_ok-reply.reply c.reserve.new.self c.in_ok-reply.ensures.follows c.reserve.ensures.whole c.in_ok-reply.ensures.names c.reserve.ensures.log c.placement.result _ (c.placement.ensures c.args.node c.args.thread) (c.in_ok-place.was ∙ ap (λ (q : Placement). Ok q) c.in-Record.is);
      closes = subst (λ (r : Reply). StepsNode g.D.Area c.args.node event c.reserve.new.self (Ok r) c.close-closed.new.self) (sym (same_some _ reply (c.done.ensures event refl (answers_may event reply c.close-closed.ensures.names)))) steps;
      is = ap (λ r. closed_at r (HasRecord c.in-Record.place c.in-Record.words)) (sym c.in_ok-done.was);
    })
