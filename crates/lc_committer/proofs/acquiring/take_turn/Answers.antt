use Rattle.std.proofs.Common.{◌∙◌, ◌≤◌, sym, subst, inl, inr, arith}
use Rattle.std.proofs.Math.Nat.{eq-or-lt_of_le}
use Rattle.lc_committer.specs.Acquiring.{WasAsked}
use Rattle.lc_committer.proofs.Nodes.{has_segment}
use Rattle.lc_committer.proofs.acquiring.take_turn.Goals as goal
use Rattle.lc_committer.proofs.acquiring.take_turn.Goals.{then-peer-number+in_ok-ask, else-peer-number}

pub returns-clause-looked : goal.returns-clause-looked
returns-clause-looked g c = (
  c.node.result.now,
  c.node.ensures.node,
  c.has_token.ensures.here (has_segment c.args.cluster.now c.args.number c.args.segment c.node.result.now c.node.ensures.node c.requires.segment),
)

pub loop-peer-preserved : goal.loop-peer-preserved
loop-peer-preserved g c = λ peer within other.
    let upto : peer ≤ c.loop-peer.peer = omega (arith, within) in
    elim (eq-or-lt_of_le upto) [
      | inl last ↦ elim c.if-peer-number.branch [
        | then-peer-number+in_ok-ask w ↦ subst (WasAsked g.D.Area c.args.cluster.now c.args.number c.args.segment) (sym last) w.in_ok-ask.ensures.asked
        | else-peer-number w ↦ absurd (other (last ∙ w.if-peer-number.false))
      ]
      | inr before ↦ c.loop-peer.invariant peer before other
    ]

pub returns-clause-asked : goal.returns-clause-asked
returns-clause-asked g c = λ peer within other.
    c.loop-peer.invariant peer (let e = c.nodes-peer-end.ensures in let far = c.loop-peer-test.false in omega (arith, within)) other
