use Rattle.std.proofs.Common.{◌≡◌, refl, sym, subst, inl, inr, rules}
use Rattle.std.specs.Prelude.{Err, IfErr}
use Rattle.lc_cluster.specs.Calls.{HandsOverAt}
use Rattle.lc_log_side.specs.Receipts.{IsOfDevice}
use Rattle.lc_committer.specs.Acquiring.{FailsAtPeer}
use Rattle.lc_committer.proofs.Devices.{flush_of_device}
use Rattle.lc_committer.proofs.acquiring.ask.Goals as goal

pub returns-then-not-has_token-clause-asked : goal.returns-then-not-has_token-clause-asked
returns-then-not-has_token-clause-asked g c =
    inl (λ has. (c.node-node.result.now, c.node-node.ensures.node, c.if-not-has_token.ensures.here (c.if-not-has.ensures.0 refl)))

pub returns-in_err-flush-clause-refused : goal.returns-in_err-flush-clause-refused
returns-in_err-flush-clause-refused g c =
    let fault = c.in_err-flush.field-0.0 in
    let is : c.from_residual.result ≡ Err fault = search rules in
    let refused = c.in_err-flush.ensures.refused in
    subst (λ r. IfErr r (λ fault. IsOfDevice fault × FailsAtPeer g.D.Area c.args.cluster.now c.args.to c.args.segment fault)) (sym is) (
      flush_of_device g.D.Area c.node-node.result.now fault refused,
      record { peer = c.args.from; other = c.requires.apart; cause = inl (c.node-node.result.now, c.node-node.ensures.node, refused) },
    )

pub returns-in-Err-DeviceFault-clause-refused : goal.returns-in-Err-DeviceFault-clause-refused
returns-in-Err-DeviceFault-clause-refused g c = (
  inl refl,
  record {
    peer = c.args.from;
    other = c.requires.apart;
    cause = inr (subst (λ fault. HandsOverAt g.D.Area c.args.cluster.now c.args.from c.args.to c.args.segment (Err fault)) c.in-Err-DeviceFault.field-0-is
        (c.in-Err-DeviceFault.ensures.gives (c.node-node.result.now, c.node-node.ensures.node, c.if-not-has.ensures.0 refl)));
  },
)

pub returns-in-Err-Halted-clause-refused : goal.returns-in-Err-Halted-clause-refused
returns-in-Err-Halted-clause-refused g c = (
  inr refl,
  record {
    peer = c.args.from;
    other = c.requires.apart;
    cause = inr (subst (λ fault. HandsOverAt g.D.Area c.args.cluster.now c.args.from c.args.to c.args.segment (Err fault)) c.in-Err-Halted.field-0-is
        (c.in-Err-Halted.ensures.gives (c.node-node.result.now, c.node-node.ensures.node, c.if-not-has.ensures.0 refl)));
  },
)

pub returns-in_default : goal.returns-in_default
returns-in_default g c = record {
  asked = inr (_, c.in_default.ensures.gives (c.node-node.result.now, c.node-node.ensures.node, c.if-not-has.ensures.0 refl));
  refused = tt;
}

pub returns-in_default-2-clause-asked : goal.returns-in_default-2-clause-asked
returns-in_default-2-clause-asked g c =
    inr (c.give.result, c.give.ensures.gives (c.node-node.result.now, c.node-node.ensures.node, c.if-not-has.ensures.0 refl))
