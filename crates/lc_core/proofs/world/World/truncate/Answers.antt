use Rattle.std.proofs.Common.{subst}
use Rattle.lc_core.specs.Truncation.{Remains}
use Rattle.lc_core.proofs.world.World.truncate.Goals as goal

pub loop-next-init : goal.loop-next-init
loop-next-init g c = λ reply new rest. subst (λ t. Remains g.D.Area t c.args.self.now reply new) c.new-truncation.ensures rest
