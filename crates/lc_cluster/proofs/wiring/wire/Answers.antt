use Rattle.std.proofs.Common.{refl, arith}
use Rattle.lc_cluster.proofs.Wired.{all_wired, have_peers, are_lines}
use Rattle.lc_cluster.proofs.wiring.wire.Goals as goal

pub returns-clause-each : goal.returns-clause-each
returns-clause-each g c = let nodes = c.args.nodes in let all = c.loop-from.all.items in
    have_peers nodes all (all_wired nodes nodes c.loop-from.from all refl (omega arith) c.loop-from.invariant)

pub returns-clause-lines : goal.returns-clause-lines
returns-clause-lines g c = let nodes = c.args.nodes in let all = c.loop-from.all.items in
    are_lines nodes all (all_wired nodes nodes c.loop-from.from all refl (omega arith) c.loop-from.invariant)

pub returns-clause-numbered : goal.returns-clause-numbered
returns-clause-numbered g c = let nodes = c.args.nodes in let all = c.loop-from.all.items in
    (all_wired nodes nodes c.loop-from.from all refl (omega arith) c.loop-from.invariant).numbers
