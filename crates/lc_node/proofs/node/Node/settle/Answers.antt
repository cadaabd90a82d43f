use Rattle.std.proofs.Common.{rules, ◌≡◌, Ok, Some, refl, subst}
use Rattle.lc_stage.specs.Seats.{commit_view}
use Rattle.lc_node.specs.Settling.{SettlesIn}
use Rattle.lc_node.proofs.Settled.{failed_in, looks_before, settled_in}
use Rattle.lc_node.proofs.node.Node.settle.Goals as goal

pub loop-init : goal.loop-init
loop-init g c = record { own = c.requires.own; idle = c.requires.idle; learns = ((commit_view c.args.seat).durable, refl) }

pub returns-in-Ok-Some-clause-looks : goal.returns-in-Ok-Some-clause-looks
returns-in-Ok-Some-clause-looks g c =
    let node = c.args.self.now in let now = commit_view c.loop.seat in let w = commit_view c.settle_once-next.result.0 in let receipt = c.in-Ok-Some.receipt in
    let is : c.settle_once-next.result.1 ≡ Ok (Some receipt) = search rules in
    looks_before node (commit_view c.args.seat) now w receipt c.loop.invariant.learns
    (settled_in g.D.Area node now w receipt (subst (λ r. SettlesIn g.D.Area node now r w) is c.settle_once-next.ensures.settles))

pub returns-in-Err-clause-fails : goal.returns-in-Err-clause-fails
returns-in-Err-clause-fails g c =
    let node = c.args.self.now in let now = commit_view c.loop.seat in let w = commit_view c.settle_once-next.result.0 in
    failed_in g.D.Area node now w c.in-Err.fault (subst (λ r. SettlesIn g.D.Area node now r w) c.in-Err.is c.settle_once-next.ensures.settles)
