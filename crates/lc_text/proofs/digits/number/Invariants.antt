use Rattle.std.proofs.Common.{◌≡◌, ◌^◌, ◌<◌, drop}
use Rattle.lc_text.specs.Line.{number_after}
use Rattle.lc_text.proofs.digits.number.Given as goal

abbrev pub invariant-loop-byte : goal.invariant-loop-byte
invariant-loop-byte l = (number_after (2 ^ 64) l.value (drop l.byte-index l.word) ≡ number_after (2 ^ 64) 0 l.word) × (l.value < 2 ^ 64)
