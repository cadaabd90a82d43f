use Rattle.lc_model.specs.declared.event.Event.TheVariants.{Reserve}
use Rattle.lc_core.proofs.Replying.{stands_comes}
use Rattle.lc_core.proofs.world.World.reserve.Goals as goal

pub returns : goal.returns
returns g c = stands_comes g.D.Area (Reserve c.args.node c.args.thread) _ c.in_ok-reply.reply c.args.self.now c.reserve_reply.new.self (c.placement.ensures c.args.node c.args.thread)
    c.in_ok-reply.ensures
