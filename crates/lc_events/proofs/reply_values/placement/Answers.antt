use Rattle.std.proofs.Common.{sym}
use Rattle.lc_model.specs.declared.event.Event.TheVariants.{Reserve}
use Rattle.lc_model.specs.declared.reply.Reply.TheVariants.{Ended}
use Rattle.lc_events.proofs.Replying.{is_over, rest_stands, same_stands}
use Rattle.lc_events.proofs.Truncations.{not_refused}
use Rattle.lc_events.proofs.reply_values.placement.Goals as goal

pub returns-in-Refused : goal.returns-in-Refused
returns-in-Refused c = λ node thread. same_stands (Reserve node thread) _ c.args.reply.now (sym c.in-Refused.is)

pub returns-in-Reserved : goal.returns-in-Reserved
returns-in-Reserved c = λ node thread. same_stands (Reserve node thread) _ c.args.reply.now (sym c.in-Reserved.is)

pub returns-in_default : goal.returns-in_default
returns-in_default c = λ node thread.
    let plain = not_refused c.args.reply.now c.in_default.not-Refused in
    rest_stands (Reserve node thread) Ended c.args.reply.now (is_over node thread c.args.reply.now plain c.in_default.not-Reserved)
