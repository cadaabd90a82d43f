use Rattle.lc_record.specs.Lists.{items_of}
use Rattle.lc_look.specs.Draws.{AreBarsOf}
use Rattle.lc_look.proofs.drawing.bars_of.Given as goal

abbrev pub invariant-loop-node : goal.invariant-loop-node
invariant-loop-node l = AreBarsOf l.node (items_of l.areas) l.bars.items
