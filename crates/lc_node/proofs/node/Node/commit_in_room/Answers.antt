use Rattle.std.proofs.Common.{rules, inl}
use Rattle.lc_node.proofs.node.Node.commit_in_room.Goals as goal

pub returns-in_default : goal.returns-in_default
returns-in_default g c = record { own = c.commit.ensures.own; idle = c.commit.ensures.idle; commits = inl (c.in_default.ensures.commits, search rules) }
