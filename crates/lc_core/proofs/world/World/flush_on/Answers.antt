use Rattle.std.proofs.Common.{◌≡◌, None, inl, inr, refl, sym, ap, subst, arith}
use Rattle.lc_model.specs.declared.event.Event.TheVariants.{FlushStep}
use Rattle.lc_model.specs.declared.reply.Reply.TheVariants.{Stepped}
use Rattle.lc_core.specs.Truncating.{StepsTo, ending, stopping}
use Rattle.lc_core.specs.Truncation.{Leads, ThenCleans}
use Rattle.lc_core.proofs.Truncations.{flush_ends, flush_on_first, flush_over, last_of, not_stopping}
use Rattle.lc_core.proofs.world.World.flush_on.Goals as goal

pub returns-then-more-gt0-clause-remains : goal.returns-then-more-gt0-clause-remains
returns-then-more-gt0-clause-remains g c =
    let a = g.D.Area in
    let w = c.args.self.now in
    let mid = c.ask.new.self in
    subst (λ s. Leads a (ThenCleans a c.args.more c.args.node) w s mid) (sym c.continues.ensures)
    (flush_on_first a c.args.more c.args.node w mid c.ask.result c.if-more-gt0.true (ap ending c.in-Stepped.is) c.ask.ensures)

pub returns-in-Stepped-clause-remains : goal.returns-in-Stepped-clause-remains
returns-in-Stepped-clause-remains g c =
    let a = g.D.Area in
    let w = c.args.self.now in
    let mid = c.ask.new.self in
    flush_ends a c.args.more c.args.node w mid (Stepped c.in-Stepped.calls) refl
    (last_of a c.args.more (FlushStep c.args.node) w mid (Stepped c.in-Stepped.calls) (λ calls is. omega (arith, c.if-more-gt0.false))
    (subst (λ r. StepsTo a w (FlushStep c.args.node) r mid) c.in-Stepped.is c.ask.ensures))

pub returns-in-Acked-clause-remains : goal.returns-in-Acked-clause-remains
returns-in-Acked-clause-remains g c =
    let a = g.D.Area in
    let w = c.args.self.now in
    let mid = c.ask.new.self in
    let goes : stopping c.ask.result ≡ None = elim c.in-Acked.is [ inl acked ↦ ap stopping acked.1 | inr nothing ↦ ap stopping nothing ] in
    subst (λ s. Leads a (ThenCleans a c.args.more c.args.node) w s mid) (sym c.continues-in-Acked.ensures)
    (flush_over a c.args.more c.args.node w mid c.ask.result goes
    (last_of a c.args.more (FlushStep c.args.node) w mid c.ask.result (λ calls is. absurd (elim c.in-Acked.is [ inl acked ↦ cc | inr nothing ↦ cc ])) c.ask.ensures))

pub returns : goal.returns
returns g c =
    let a = g.D.Area in
    let w = c.args.self.now in
    let mid = c.ask.new.self in
    record {
      remains = flush_ends a c.args.more c.args.node w mid c.ask.result (not_stopping c.ask.result c.in_default.not-Acked c.in_default.not-Nothing)
          (last_of a c.args.more (FlushStep c.args.node) w mid c.ask.result (λ calls is. absurd (c.in_default.not-Stepped calls is)) c.ask.ensures);
      one = record { event = FlushStep c.args.node; reply = c.ask.result; of_truncation = refl; steps = c.ask.ensures };
      fewer = tt;
      node = tt;
    }
