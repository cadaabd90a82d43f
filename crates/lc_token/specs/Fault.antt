-- The numbers of the faults.
use Rattle.std.specs.Prelude.{ℕ}
use Rattle.lc_token.specs.declared.fault.TokenFault.{TokenFault}
use Rattle.lc_token.specs.declared.fault.TokenFault.TheVariants.{Behind, Unflushed, Writing, Held, NotHere, NoMemory}

-- a fault's number
abbrev pub number_of : TokenFault → ℕ
number_of (Behind applied seq) = 1
number_of Unflushed = 2
number_of Writing = 3
number_of Held = 4
number_of (NotHere segment) = 5
number_of NoMemory = 6
