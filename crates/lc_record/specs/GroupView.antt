-- What contracts see of a group.
use Rattle.std.specs.Prelude.{ℕ, List}

-- its words, and how many it has room for
pub record GroupView : Type 0 where
  pub words : List ℕ
  pub room : ℕ
