-- Of a node: what the reset of a log does.
use Rattle.std.specs.Prelude.{◌≡◌}
use Rattle.lc_log_side.specs.LogView.{LogView}

module _ {D : Type 0} where
  -- there may be more room for the words of the ended rounds
  abbrev pub IsSameInRoom : LogView D → LogView D → Type 0
  IsSameInRoom old new = new ≡ record old { ended_room = new.ended_room }
