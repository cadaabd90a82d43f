use Rattle.std.proofs.Common.{rules}
use Rattle.lc_stage.proofs.Turning.{learns}
use Rattle.lc_stage.proofs.stage.Stage.durable.Goals as goal

pub load-stable-requires : goal.load-stable-requires
load-stable-requires c = (search rules, search rules, learns _ _ _ _)
