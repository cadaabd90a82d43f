use Rattle.std.proofs.Common.{refl, sym, ap, subst, arith}
use Rattle.lc_model.specs.declared.event.Event.TheVariants.{ResetStep}
use Rattle.lc_model.specs.declared.reply.Reply.TheVariants.{Stepped}
use Rattle.lc_core.specs.Truncating.{Repeats, StepsTo, ending}
use Rattle.lc_core.specs.Truncation.{Leads}
use Rattle.lc_core.proofs.Truncations.{last_of, more_calls}
use Rattle.lc_core.proofs.world.World.reset_on.Goals as goal

pub returns-then-more-gt0-clause-remains : goal.returns-then-more-gt0-clause-remains
returns-then-more-gt0-clause-remains g c =
    let a = g.D.Area in
    let w = c.args.self.now in
    let mid = c.ask.new.self in
    subst (λ s. Leads a (Repeats a c.args.more (ResetStep c.args.node)) w s mid) (sym c.continues.ensures)
    (more_calls a c.args.more (ResetStep c.args.node) w mid c.ask.result c.if-more-gt0.true (ap ending c.in-Stepped.is) c.ask.ensures)

pub returns-in-Stepped-clause-remains : goal.returns-in-Stepped-clause-remains
returns-in-Stepped-clause-remains g c =
    let a = g.D.Area in
    let w = c.args.self.now in
    let mid = c.ask.new.self in
    last_of a c.args.more (ResetStep c.args.node) w mid (Stepped c.in-Stepped.calls) (λ calls is. omega (arith, c.if-more-gt0.false))
    (subst (λ r. StepsTo a w (ResetStep c.args.node) r mid) c.in-Stepped.is c.ask.ensures)

pub returns : goal.returns
returns g c =
    let a = g.D.Area in
    let w = c.args.self.now in
    let mid = c.ask.new.self in
    record {
      remains = last_of a c.args.more (ResetStep c.args.node) w mid c.ask.result (λ calls is. absurd (c.in_default.not-Stepped calls is)) c.ask.ensures;
      one = record { event = ResetStep c.args.node; reply = c.ask.result; of_truncation = refl; steps = c.ask.ensures };
      fewer = tt;
      node = tt;
    }
