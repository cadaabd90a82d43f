-- What contracts see of a `TokenPlace`: the segment, and the token if it stands there.
use Rattle.std.specs.Prelude.{ℕ, Option}
use Rattle.lc_token.specs.declared.token.Token.{Token}

pub record Standing : Type 0 where
  pub segment : ℕ
  pub token : Option Token
