-- Whether a seat has closed a record.
use Rattle.std.specs.Prelude.{◌<◌, length}
use Rattle.lc_stage.specs.Staging.{latest}
use Rattle.lc_stage.specs.declared.stage_view.StageView.{StageView}

-- a record of it is closed
abbrev pub HasClosed : StageView → Type 0
HasClosed v = 0 < length (latest v.mine).words
