use Rattle.std.proofs.Common.{refl, subst, arith}
use Rattle.lc_committer.specs.Acquiring.{WasLookedFor}
use Rattle.lc_committer.proofs.acquiring.acquire.Goals as goal

pub returns-then-has_token-clause-here : goal.returns-then-has_token-clause-here
returns-then-has_token-clause-here g c = (c.node-node.result.now, c.node-node.ensures.node, c.if-has_token.ensures.here (c.if-not-has.ensures.0 refl))

pub loop-init : goal.loop-init
loop-init g c = record {
  lacks = (c.node-node.result.now, c.node-node.ensures.node, c.if-has_token.ensures.here (c.if-not-has.ensures.0 refl));
  asked = λ none. absurd (omega (arith, none));
}

pub take_turn-requires-clause-segment : goal.take_turn-requires-clause-segment
take_turn-requires-clause-segment g c = (c.node-node.result.now, c.node-node.ensures.node, c.if-not-has.ensures.0 refl)

pub returns-then-branch-clause-here : goal.returns-then-branch-clause-here
returns-then-branch-clause-here g c = subst (WasLookedFor c.args.cluster.now c.args.number c.args.segment) c.if-branch.true c.in_ok-take_turn.ensures.looked

pub returns-clause-asked : goal.returns-clause-asked
returns-clause-asked g c = λ s is some has. c.loop.invariant.asked (let all = c.loop-test.false in omega (arith, some, all))
