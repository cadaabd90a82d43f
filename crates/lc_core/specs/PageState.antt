-- Of the store: how the writes of the pages of a segment stand.
use Rattle.std.specs.Prelude.{◌≡◌, ℕ, List, replicate, Some, slice_get}
use Rattle.std.specs.Global.{Vec}
use Rattle.lc_record.specs.declared.geometry.Geometry.{Geometry}
use Rattle.lc_desk.specs.declared.page_state.PageState.{PageState}
use Rattle.lc_desk.specs.declared.page_state.PageState.TheVariants.{AtRest}

-- the states of the pages of a segment of which none is being written
abbrev pub resting : Geometry → List PageState
resting g = replicate g.pages AtRest

-- those of segments
abbrev pub AreAtRest : Geometry → List (Vec PageState) → Type 0
AreAtRest g segments = (k : ℕ) (writes : Vec PageState) → slice_get segments k ≡ Some writes → writes.items ≡ resting g
