use Rattle.std.proofs.Common.{◌≡◌, ℕ, ◌+◌, ◌<◌, [], take}
use Rattle.lc_rest.specs.AtRest.{KeepsToken}
use Rattle.lc_reading.specs.Readings.{first_numbers, tests_of}
use Rattle.lc_reading.proofs.read_parts.ReadParts.test_tokens.Given as goal

abbrev pub invariant-loop-place : goal.invariant-loop-place
invariant-loop-place l = record {
  numbers : l.numbers.items ≡ take l.place (first_numbers l.self);
  keeps : (k : ℕ) → k < l.place → KeepsToken (tests_of l.self []) (k + 1);
}
