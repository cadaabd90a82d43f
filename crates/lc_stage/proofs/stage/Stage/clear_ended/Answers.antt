use Rattle.std.proofs.Common.{rules}
use Rattle.lc_stage.proofs.Turning.{clears_ended}
use Rattle.lc_stage.proofs.stage.Stage.clear_ended.Goals as goal

pub store-requires : goal.store-requires
store-requires c = (search rules, search rules, clears_ended _ _ _ _ _ (search rules) (search rules) (search rules))
