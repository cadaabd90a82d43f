-- The rounds of the tests.
use Rattle.std.specs.Prelude.{◌≡◌}
use Rattle.lc_stage.specs.declared.stage_view.StageView.{StageView}

-- nothing of the flusher's round is cleared, and all of the round before
abbrev pub IsUncleared : StageView → Type 0
IsUncleared v = (v.cleared ≡ 0) × (v.ended_cleared ≡ v.ended)
