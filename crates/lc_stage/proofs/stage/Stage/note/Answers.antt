use Rattle.std.proofs.Common.{rules}
use Rattle.lc_stage.proofs.Parts.{notes, tells}
use Rattle.lc_stage.proofs.stage.Stage.note.Goals as goal

pub split_seat-carrier-requires : goal.split_seat-carrier-requires
split_seat-carrier-requires c = (search rules, search rules, notes _ _ _)

pub join_seat-requires : goal.join_seat-requires
join_seat-requires c = (search rules, search rules, search rules, search rules, tells _ _ _ _ _ (search rules) (search rules))
