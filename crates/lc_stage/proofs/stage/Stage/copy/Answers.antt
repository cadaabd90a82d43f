use Rattle.std.proofs.Common.{rules, ◌≤◌, length}
use Rattle.lc_stage.specs.Seats.{flush_view}
use Rattle.lc_stage.specs.Staging.{row}
use Rattle.lc_stage.proofs.Rows.{row_fits}
use Rattle.lc_stage.proofs.Takes.{copies}
use Rattle.lc_stage.proofs.stage.Stage.copy.Goals as goal

pub overflow_add-at : goal.overflow_add-at
overflow_add-at c =
    let fits : row c.args.self.now.room (length (flush_view c.args.flusher.now).past) ≤ c.args.self.now.room = row_fits c.args.self.now.room (length (flush_view c.args.flusher.now).past) in
    search rules

pub load-requires : goal.load-requires
load-requires c =
    let fits : row c.args.self.now.room (length (flush_view c.args.flusher.now).past) ≤ c.args.self.now.room = row_fits c.args.self.now.room (length (flush_view c.args.flusher.now).past) in
    (search rules, search rules, copies _ _ _ _ c.args.place _ (search rules) (search rules) (search rules) (search rules) (search rules))
