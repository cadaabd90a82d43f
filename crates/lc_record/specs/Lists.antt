-- What several lists hold.
use Rattle.std.specs.Prelude.{ℕ, List, map}
use Rattle.std.specs.Global.{Vec}

abbrev pub items_of : List (Vec ℕ) → List (List ℕ)
items_of vs = map (λ (v : Vec ℕ). v.items) vs
