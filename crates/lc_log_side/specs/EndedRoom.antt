-- The memory for the words of the rounds that have ended.
use Rattle.std.specs.Prelude.{◌≡◌, ◌≤◌}
use Rattle.lc_stage.specs.Seats.{flush_view}
use Rattle.lc_log_side.specs.LogView.{LogView}

module _ {D : Type 0} where
  -- there is room for the words of one round more
  abbrev pub HasRoom : LogView D → Type 0
  HasRoom log = (flush_view log.flusher).room ≤ log.ended_room

  -- there is now, and nothing else has changed; where there was before, nothing has
  abbrev pub MakesRoom : LogView D → LogView D → Type 0
  MakesRoom old new = HasRoom new × (new ≡ record old { ended_room = new.ended_room }) × (HasRoom old → new ≡ old)

  -- there was not, and nothing has changed
  abbrev pub LacksRoom : LogView D → LogView D → Type 0
  LacksRoom old new = ¬ HasRoom old × (new ≡ old)
