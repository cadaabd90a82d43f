-- A segment's token on its way from one node to another.
use Rattle.std.specs.Prelude.{ℕ}
use Rattle.lc_token.specs.declared.token.Token.{Token}

-- what contracts see of it: with it goes the area of the segment's pages, and the number of the node that it left
pub record Journey (D : Type 0) : Type 0 where
  pub token : Token
  pub area : D
  pub left : ℕ
