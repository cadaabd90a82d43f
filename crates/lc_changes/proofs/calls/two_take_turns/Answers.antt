use Rattle.std.proofs.Common.{refl}
use Rattle.lc_changes.proofs.calls.two_take_turns.Goals as goal

pub returns : goal.returns
returns c = λ a b c d e ranges. refl
