-- How a place keeps its token.
use Rattle.std.specs.Prelude.{◌≡◌}
use Rattle.std.specs.Option.{ForSome}
use Rattle.lc_token.specs.Standing.{Standing}
use Rattle.lc_token.specs.declared.token_place.TokenPlace.TheInside.{Inside}

abbrev pub standing_of : Inside → Standing
standing_of p = record { segment = p.segment; token = p.token }

-- its token is of its segment
abbrev pub HasItsToken : Inside → Type 0
HasItsToken p = ForSome p.token (λ t. t.segment ≡ p.segment)
