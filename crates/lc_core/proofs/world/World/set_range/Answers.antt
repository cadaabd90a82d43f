use Rattle.lc_model.specs.declared.event.Event.TheVariants.{SetRange}
use Rattle.lc_core.proofs.Replying.{stands_comes}
use Rattle.lc_core.proofs.world.World.set_range.Goals as goal

pub returns : goal.returns
returns g c = stands_comes g.D.Area (SetRange c.args.node c.args.thread c.args.segment c.args.offset c.args.len) _ c.in_ok-reply.reply c.args.self.now c.set_range_reply.new.self (c.range_set.ensures c.args.node c.args.thread c.args.segment c.args.offset c.args.len)
    c.in_ok-reply.ensures
