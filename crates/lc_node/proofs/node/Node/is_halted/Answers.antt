use Rattle.std.proofs.Common.{rules, ◌<◌}
use Rattle.lc_node.proofs.node.Node.is_halted.Goals as goal

pub returns : goal.returns
returns g c = λ is. let some : 0 < c.load.result = search rules in c.load.ensures some
