-- The words of the records of the rounds that have ended, of which those in front may have been dropped.
use Rattle.std.specs.Prelude.{ℕ, ◌+◌, ◌*◌, ◌^◌, ◌<◌, ◌≤◌, List}

-- how many words were dropped, those that are kept, and for how many more there is memory
pub record EndedWords : Type 0 where
  pub gone : ℕ
  pub words : List ℕ
  pub room : ℕ

-- the words in front that were dropped and are not yet moved out are half of them at most
pub record HasShortFront (len capacity cut moved : ℕ) : Type 0 where
  pub within : len ≤ capacity
  pub half : cut * 2 ≤ len
  pub small : moved + len < 2 ^ 64
