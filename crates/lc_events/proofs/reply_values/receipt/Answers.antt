use Rattle.std.proofs.Common.{sym}
use Rattle.lc_model.specs.declared.event.Event.TheVariants.{Deliver}
use Rattle.lc_model.specs.declared.reply.Reply.TheVariants.{Ignored}
use Rattle.lc_events.proofs.Replying.{is_ignored, rest_stands, same_stands}
use Rattle.lc_events.proofs.Truncations.{not_refused}
use Rattle.lc_events.proofs.reply_values.receipt.Goals as goal

pub returns-in-Refused : goal.returns-in-Refused
returns-in-Refused c = λ sender number segment to. same_stands (Deliver sender number segment to) _ c.args.reply.now (sym c.in-Refused.is)

pub returns-in-Applied : goal.returns-in-Applied
returns-in-Applied c = λ sender number segment to. same_stands (Deliver sender number segment to) _ c.args.reply.now (sym c.in-Applied.is)

pub returns-in-HeldBack : goal.returns-in-HeldBack
returns-in-HeldBack c = λ sender number segment to. same_stands (Deliver sender number segment to) _ c.args.reply.now (sym c.in-HeldBack.is)

pub returns-in_default : goal.returns-in_default
returns-in_default c = λ sender number segment to.
    let plain = not_refused c.args.reply.now c.in_default.not-Refused in
    rest_stands (Deliver sender number segment to) Ignored c.args.reply.now (is_ignored sender number segment to c.args.reply.now plain c.in_default.not-Applied c.in_default.not-HeldBack)
