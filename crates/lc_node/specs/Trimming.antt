-- Of a node: what a log forgets of the rounds that have ended.
use Rattle.std.specs.Prelude.{◌≡◌, Bool, true, false}
use Rattle.lc_log_side.specs.LogView.{LogView}
use Rattle.lc_log_side.specs.Trimming.{ForgetsEnded}

module _ {D : Type 0} where
  -- where the node is alone
  abbrev pub ForgetsAlone : Bool → LogView D → LogView D → Type 0
  ForgetsAlone false old new = new ≡ old
  ForgetsAlone true old new = ForgetsEnded old new
