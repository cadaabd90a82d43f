use Rattle.std.proofs.Common.{sym}
use Rattle.lc_model.specs.declared.event.Event.TheVariants.{PageStep}
use Rattle.lc_model.specs.declared.reply.Reply.TheVariants.{Stepped}
use Rattle.lc_events.proofs.Replying.{is_page_call, rest_stands, same_stands}
use Rattle.lc_events.proofs.Truncations.{not_refused}
use Rattle.lc_events.proofs.reply_values.write_progress.Goals as goal

pub returns-in-Refused : goal.returns-in-Refused
returns-in-Refused c = λ node segment page. same_stands (PageStep node segment page) _ c.args.reply.now (sym c.in-Refused.is)

pub returns-in-Stepped : goal.returns-in-Stepped
returns-in-Stepped c = λ node segment page. same_stands (PageStep node segment page) _ c.args.reply.now (sym c.in-Stepped.is)

pub returns-in-Written : goal.returns-in-Written
returns-in-Written c = λ node segment page. same_stands (PageStep node segment page) _ c.args.reply.now (sym c.in-Written.is)

pub returns-in_default : goal.returns-in_default
returns-in_default c = λ node segment page.
    let plain = not_refused c.args.reply.now c.in_default.not-Refused in
    rest_stands (PageStep node segment page) (Stepped 0) c.args.reply.now (λ may. absurd (is_page_call node segment page c.args.reply.now plain c.in_default.not-Stepped c.in_default.not-Written may))
