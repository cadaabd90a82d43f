use Rattle.std.proofs.Common.{sym}
use Rattle.lc_model.specs.declared.reply.Reply.TheVariants.{Ok as Accepted}
use Rattle.lc_events.proofs.Replying.{is_done, rest_stands, same_stands}
use Rattle.lc_events.proofs.Truncations.{not_refused}
use Rattle.lc_events.proofs.reply_values.done.Goals as goal

pub returns-in-Refused : goal.returns-in-Refused
returns-in-Refused c = λ event done. same_stands (event) _ c.args.reply.now (sym c.in-Refused.is)

pub returns-in_default : goal.returns-in_default
returns-in_default c = λ event done.
    let plain = not_refused c.args.reply.now c.in_default.not-Refused in
    rest_stands event Accepted c.args.reply.now (is_done event c.args.reply.now done plain)
