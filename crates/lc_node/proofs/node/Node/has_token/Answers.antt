use Rattle.std.proofs.Common.{◌≡◌, ◌-◌, subst, ◌∙◌, arith}
use Rattle.std.specs.Prelude.{◌↔◌, IsSome, IsTrue}
use Rattle.lc_segments.specs.SegView.{SegView}
use Rattle.lc_segments.specs.declared.held.HeldSide.{HeldSide}
use Rattle.lc_node.proofs.SegmentLocks.{held_now}
use Rattle.lc_node.proofs.node.Node.has_token.Goals as goal

pub returns-clause-here : goal.returns-clause-here
returns-clause-here g c = λ has.
    let node = c.args.self.now in
    let h : HeldSide g.row.D.Denot = record { side = c.lock-side.result.0; loan = c.lock-side.result.1 } in
    let now = held_now node h c.index-lock.result.now (c.args.segment - 1) (omega (arith, has.0, has.1)) c.index-lock.ensures c.lock-side.ensures.fits.0 c.lock-side.ensures.loan c.lock-side.ensures.fits.1 in
    let same : c.deref.result.now ≡ c.lock-side.result.0 = c.deref.ensures ∙ c.side.view_is in
    record {
      held = h;
      own = now.0;
      which = (let at = now.1 in omega (arith, has.0, at));
      here = subst (λ (s : SegView _). IsTrue c.has_token-has_token.result ↔ IsSome s.standing.token) same c.has_token-has_token.ensures;
    }
