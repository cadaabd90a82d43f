use Rattle.std.proofs.Common.{refl}
use Rattle.lc_model.specs.declared.event.Event.TheVariants.{PageStep}
use Rattle.lc_events.proofs.running.Running.page_refusal.Goals as goal

pub returns : goal.returns
returns g c = c.refusal.ensures (PageStep c.args.node c.args.segment c.args.page) c.is_page_of.ensures.known refl
