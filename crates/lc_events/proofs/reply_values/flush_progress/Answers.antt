use Rattle.std.proofs.Common.{sym}
use Rattle.lc_model.specs.declared.event.Event.TheVariants.{FlushStep}
use Rattle.lc_model.specs.declared.reply.Reply.TheVariants.{Nothing}
use Rattle.lc_events.proofs.Replying.{is_nothing, rest_stands, same_stands}
use Rattle.lc_events.proofs.Truncations.{not_refused}
use Rattle.lc_events.proofs.reply_values.flush_progress.Goals as goal

pub returns-in-Refused : goal.returns-in-Refused
returns-in-Refused c = λ node. same_stands (FlushStep node) _ c.args.reply.now (sym c.in-Refused.is)

pub returns-in-Stepped : goal.returns-in-Stepped
returns-in-Stepped c = λ node. same_stands (FlushStep node) _ c.args.reply.now (sym c.in-Stepped.is)

pub returns-in-Acked : goal.returns-in-Acked
returns-in-Acked c = λ node. same_stands (FlushStep node) _ c.args.reply.now (sym c.in-Acked.is)

pub returns-in_default : goal.returns-in_default
returns-in_default c = λ node.
    let plain = not_refused c.args.reply.now c.in_default.not-Refused in
    rest_stands (FlushStep node) Nothing c.args.reply.now (is_nothing node c.args.reply.now plain c.in_default.not-Stepped c.in_default.not-Acked)
