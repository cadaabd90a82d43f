use Rattle.std.proofs.Common.{rules}
use Rattle.lc_stage.proofs.Parts.{meets, parts}
use Rattle.lc_stage.proofs.Turning.{learns_stored}
use Rattle.lc_stage.proofs.stage.Stage.durable_beside.Goals as goal

pub join_seat-requires : goal.join_seat-requires
join_seat-requires c = (search rules, search rules, search rules, search rules, meets _ _ _ _ _ (search rules) (search rules))

pub load-stored-requires : goal.load-stored-requires
load-stored-requires c = (search rules, search rules, learns_stored _ _ _ _ (search rules))

pub split_seat-requires : goal.split_seat-requires
split_seat-requires c = (search rules, search rules, parts _ _ _)
