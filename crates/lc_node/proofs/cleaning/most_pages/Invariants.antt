use Rattle.std.proofs.Common.{All, take}
use Rattle.lc_log_side.specs.Truncates.{HasPagesIn}
use Rattle.lc_node.proofs.cleaning.most_pages.Given as goal

abbrev pub invariant-loop-held : goal.invariant-loop-held
invariant-loop-held g l = All (HasPagesIn l.most) (take l.held-index l.sides)
