use Rattle.std.proofs.Common.{◌≡◌, ◌∙◌, ◌≤◌, Result, sym, subst, inl, inr, arith, rules}
use Rattle.std.proofs.Math.Nat.{eq-or-lt_of_le}
use Rattle.std.specs.Prelude.{Err, IfErr}
use Rattle.lc_cluster.specs.Calls.{PumpsAt}
use Rattle.lc_segments.specs.declared.node_fault.NodeFault.{NodeFault}
use Rattle.lc_node.specs.declared.pumped.Pumped.{Pumped}
use Rattle.lc_committer.specs.Round.{IsUnkeptAt}
use Rattle.lc_committer.proofs.member_round.ClusterNodeRound.round.Goals as goal
use Rattle.lc_committer.proofs.member_round.ClusterNodeRound.round.Goals.{then-peer-self, else-peer-self}

pub returns-in_err-round-clause-refused : goal.returns-in_err-round-clause-refused
returns-in_err-round-clause-refused g c =
    let fault = c.in_err-round.field-0.0 in
    let is : c.from_residual.result ≡ Err fault = search rules in
    subst (λ r. IfErr r (IsUnkeptAt g.D.Area c.args.self.now.cluster.now c.args.self.now.number)) (sym is)
    (c.node.result.now, c.node.ensures.node, c.in_err-round.ensures.refused)

pub loop-peer-preserved : goal.loop-peer-preserved
loop-peer-preserved g c = λ peer within other.
    let at = c.args.self.now in
    let upto : peer ≤ c.loop-peer.peer = omega (arith, within) in
    elim (eq-or-lt_of_le upto) [
      | inl last ↦ elim c.if-peer-self.branch [
        | then-peer-self w ↦ subst (λ p. (answer : Result Pumped NodeFault) × PumpsAt at.cluster.now at.number p answer) (sym last) w.pump_all.ensures.pumped
        | else-peer-self w ↦ absurd (other (last ∙ w.if-peer-self.false))
      ]
      | inr before ↦ c.loop-peer.invariant peer before other
    ]

pub returns-clause-kept : goal.returns-clause-kept
returns-clause-kept g c = record {
  node = c.node.result.now;
  at = c.node.ensures.node;
  kept = c.in_ok-round.ensures.kept;
  pumped = λ peer within other.
      c.loop-peer.invariant peer (let e = c.nodes-peer-end.ensures in let all = c.loop-peer-test.false in omega (arith, within)) other;
  count = c.trim.result;
  trimmed = c.trim.ensures;
}
