use Rattle.std.proofs.Common.{◌≡◌, ◌+◌, ◌<◌, None, Some, refl, sym, ap, subst, arith}
use Rattle.lc_model.specs.declared.event.Event.{Event}
use Rattle.lc_model.specs.declared.event.Event.TheVariants.{PageStep, ResetStep}
use Rattle.lc_core.specs.Truncating.{Repeats, StepsTo}
use Rattle.lc_events.specs.Truncating.{refusal_in}
use Rattle.lc_core.specs.Truncation.{IsFewer, IsOf, Leads, ThenResets, WritesIf, steps_if, steps_in}
use Rattle.lc_core.specs.declared.truncation_stage.TruncationStage.TheVariants.{Writes}
use Rattle.lc_core.specs.declared.truncation_step.TruncationStep.TheVariants.{Continues}
use Rattle.lc_core.proofs.Truncations.{leads_more, one_refused, written_on}
use Rattle.lc_events.proofs.Truncations.{not_refused}
use Rattle.lc_core.proofs.world.World.write_on.Goals as goal

pub returns-in_default-clause-remains : goal.returns-in_default-clause-remains
returns-in_default-clause-remains g c =
    let a = g.D.Area in
    let w = c.args.self.now in
    leads_more a (Repeats a 3 (ResetStep c.args.node)) (ThenResets a c.args.node (WritesIf a c.args.node c.args.next)) w c.reset_on.new.self c.reset_on.result
    (λ reply new resets. (None, w, subst (λ o. WritesIf a c.args.node o w None w) (sym c.in_default.is) (refl, refl), resets)) c.reset_on.ensures.remains

pub returns-in-Refused-clause-remains : goal.returns-in-Refused-clause-remains
returns-in-Refused-clause-remains g c =
    let a = g.D.Area in
    let w = c.args.self.now in
    let mid = c.ask.new.self in
    let at = c.in-Some.cursor in
    let due = c.requires.due at c.in-Some.is in (
      Some c.in-Refused.refusal,
      mid,
      subst (λ o. WritesIf a c.args.node o w (Some c.in-Refused.refusal) mid) (sym c.in-Some.is)
          (one_refused a c.args.node at.segments at.pages at.place at.round at.page w mid c.ask.result due.within due.due
          (subst (λ (e : Event). StepsTo a w e c.ask.result mid) c.event.ensures c.ask.ensures) c.in-Refused.refusal (ap refusal_in c.in-Refused.is)),
      (refl, refl),
    )

pub past-requires : goal.past-requires
past-requires g c = (c.requires.due c.in-Some.cursor c.in-Some.is).within

pub returns : goal.returns
returns g c =
    let a = g.D.Area in
    let w = c.args.self.now in
    let mid = c.ask.new.self in
    let node = c.args.node in
    let at = c.in-Some.cursor in
    let past = c.past.result in
    let due = c.requires.due at c.in-Some.is in
    let steps : StepsTo a w (PageStep node (at.place + 1) at.page) c.ask.result mid = subst (λ (e : Event). StepsTo a w e c.ask.result mid) c.event.ensures c.ask.ensures in
    let done : refusal_in c.ask.result ≡ None = not_refused c.ask.result c.in_default-ask.not-Refused in
    let is = c.continues.ensures in
    record {
      remains = subst (λ s. Leads a (ThenResets a node (WritesIf a node c.args.next)) w s mid) (sym is)
          (subst (λ o. Leads a (ThenResets a node (WritesIf a node o)) w (Continues (record { node = node; stage = Writes past })) mid) (sym c.in-Some.is)
          (written_on a node at past w mid c.ask.result c.past.ensures due.within due.due steps done));
      one = record { event = PageStep node (at.place + 1) at.page; reply = c.ask.result; of_truncation = refl; steps = steps };
      fewer = subst (λ s. IsFewer a (steps_if c.args.next) s) (sym is)
          (subst (λ o. steps_in (Writes past) < steps_if o) (sym c.in-Some.is)
          (omega (arith, c.past.ensures.segments, c.past.ensures.pages, c.past.ensures.place, c.past.ensures.round_is, c.past.ensures.page_is, due.within)));
      node = subst (λ s. IsOf a node s) (sym is) refl;
    }
