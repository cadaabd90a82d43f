use Rattle.std.proofs.Common.{◌≡◌, length}
use Rattle.lc_text.specs.Line.{bytes_of}
use Rattle.lc_text.proofs.Items.{with_front}
use Rattle.lc_text.proofs.digits.bytes.Given as goal

abbrev pub invariant-loop-rest : goal.invariant-loop-rest
invariant-loop-rest l = with_front l.bytes.items (bytes_of l.rest) ≡ bytes_of l.word

abbrev pub decreases-loop-rest : goal.decreases-loop-rest
decreases-loop-rest l = length l.rest
