use Rattle.std.proofs.Common.{rules}
use Rattle.lc_stage.proofs.Turning.{reopens}
use Rattle.lc_stage.proofs.stage.Stage.reopen.Goals as goal

pub store-requires : goal.store-requires
store-requires c = (search rules, search rules, reopens _ _ _ _ _ (search rules) (search rules) (search rules) (search rules) (search rules) (search rules))
