use Rattle.std.proofs.Common.{sym}
use Rattle.lc_model.specs.declared.event.Event.TheVariants.{Trim}
use Rattle.lc_model.specs.declared.reply.Reply.TheVariants.{Trimmed}
use Rattle.lc_events.proofs.Replying.{is_trimmed, rest_stands, same_stands}
use Rattle.lc_events.proofs.Truncations.{not_refused}
use Rattle.lc_events.proofs.reply_values.trimmed.Goals as goal

pub returns-in-Refused : goal.returns-in-Refused
returns-in-Refused c = λ node. same_stands (Trim node) _ c.args.reply.now (sym c.in-Refused.is)

pub returns-in-Trimmed : goal.returns-in-Trimmed
returns-in-Trimmed c = λ node. same_stands (Trim node) _ c.args.reply.now (sym c.in-Trimmed.is)

pub returns-in_default : goal.returns-in_default
returns-in_default c = λ node.
    let plain = not_refused c.args.reply.now c.in_default.not-Refused in
    rest_stands (Trim node) (Trimmed 0) c.args.reply.now (λ may. absurd (is_trimmed node c.args.reply.now plain c.in_default.not-Trimmed may))
