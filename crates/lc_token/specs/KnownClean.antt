-- The greatest `clean` that was seen of each segment.
use Rattle.std.specs.Prelude.{◌≡◌, ◌==◌, ℕ, zero, suc, max, List, [], ◌∷◌, slice_index, if◌then◌else◌}
use Rattle.lc_token.specs.declared.token.Token.{Token}

-- the number of a segment, of numbers from segment 1 on; 0 where there is none
abbrev pub known : List ℕ → ℕ → ℕ
known numbers zero = 0
known numbers (suc place) = slice_index numbers place

-- of its segment, the token's `clean` is seen too
abbrev pub Sees : List ℕ → Token → List ℕ → Type 0
Sees old token new =
    (segment : ℕ) →
    known new segment ≡ (if segment == token.segment then max (known old segment) token.clean else known old segment)

-- these tokens are seen, one after another
abbrev pub SeesAll : List ℕ → List Token → List ℕ → Type 0
SeesAll old [] new = new ≡ old
SeesAll old (token ∷ tokens) new = (next : List ℕ) × Sees old token next × SeesAll next tokens new

-- nothing was seen
abbrev pub KnowsNothing : List ℕ → Type 0
KnowsNothing numbers = (segment : ℕ) → known numbers segment ≡ 0
