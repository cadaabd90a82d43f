use Rattle.std.proofs.Common.{sym}
use Rattle.lc_model.specs.declared.event.Event.TheVariants.{SetRange}
use Rattle.lc_model.specs.declared.reply.Reply.TheVariants.{Ok as Accepted}
use Rattle.lc_events.proofs.Replying.{is_set, rest_stands, same_stands}
use Rattle.lc_events.proofs.Truncations.{not_refused}
use Rattle.lc_events.proofs.reply_values.range_set.Goals as goal

pub returns-in-Refused : goal.returns-in-Refused
returns-in-Refused c = λ node thread segment offset len. same_stands (SetRange node thread segment offset len) _ c.args.reply.now (sym c.in-Refused.is)

pub returns-in_default : goal.returns-in_default
returns-in_default c = λ node thread segment offset len.
    let plain = not_refused c.args.reply.now c.in_default.not-Refused in
    rest_stands (SetRange node thread segment offset len) Accepted c.args.reply.now (is_set node thread segment offset len c.args.reply.now plain)
