use Rattle.std.proofs.Common.{sym, subst}
use Rattle.lc_model.specs.declared.event.Event.TheVariants.{FlushStep}
use Rattle.lc_model.specs.declared.reply.Reply.{Reply}
use Rattle.lc_core.specs.Truncating.{Repeats}
use Rattle.lc_tool.proofs.Flushes.{flush_anyhow, flush_down, flush_follows}
use Rattle.lc_tool.proofs.repeating.flush.Goals as goal

pub returns : goal.returns
returns g c =
    let to = subst (λ (r : Reply). Repeats g.D.Area 3 (FlushStep c.args.node) c.args.world.now r c.flush.new.self) (sym c.flush_reply.ensures) c.flush.ensures in
    record {
      follows = flush_follows g.D.Area c.args.world.now c.flush.new.self c.args.node c.flush_reply.result to;
      anyhow = flush_anyhow g.D.Area c.args.world.now c.flush.new.self c.args.node c.flush_reply.result to;
      down = flush_down g.D.Area c.args.world.now c.flush.new.self c.args.node c.flush_reply.result to;
    }
