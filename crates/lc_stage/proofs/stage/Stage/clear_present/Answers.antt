use Rattle.std.proofs.Common.{rules}
use Rattle.lc_stage.proofs.Turning.{clears}
use Rattle.lc_stage.proofs.stage.Stage.clear_present.Goals as goal

pub store-requires : goal.store-requires
store-requires c = (search rules, search rules, clears _ _ _ _ _ (search rules) (search rules) (search rules) (search rules) (search rules))
