use Rattle.std.proofs.Common.{rules, ◌≡◌, Some, None, sym, ap, ◌∙◌}
use Rattle.std.specs.Prelude.{IsSome}
use Rattle.std.proofs.lemmas.Option.{same_Some as some_same}
use Rattle.lc_segments.specs.SegView.{SegView}
use Rattle.lc_segments.specs.declared.held.HeldSide.{HeldSide}
use Rattle.lc_node.proofs.FirstGone.{all_here, gone_now, looks, looks_on}
use Rattle.lc_node.proofs.absent.first_absent.Goals as goal

pub loop-held-init : goal.loop-held-init
loop-held-init g c = looks c.args.sides.now

pub returns-then-is_none-clause-first : goal.returns-then-is_none-clause-first
returns-then-is_none-clause-first g c = λ s.
    let same : c.deref-side.result.now ≡ c.held-item.result.side = c.deref-side.ensures ∙ ap (λ (h : HeldSide _). h.side) c.held.view_is in
    let none : c.held-item.result.side.standing.token ≡ None = search rules in
    let segment : c.segment.result ≡ c.held-item.result.side.segment = c.segment.ensures.segment ∙ ap (λ (s : SegView _). s.segment) same in
    let iff = gone_now c.args.sides.now c.loop-held.held-index c.held-item.result c.loop-held-test.true c.held-item.is c.loop-held.invariant none s in
    ((λ e. iff.0 (sym segment ∙ some_same _ _ e)), (λ first. ap (λ x. Some x) (segment ∙ iff.1 first)))

pub loop-held-preserved : goal.loop-held-preserved
loop-held-preserved g c =
    let some : IsSome c.held-item.result.side.standing.token = search rules in
    looks_on c.args.sides.now c.loop-held.held-index c.held-item.result c.loop-held-test.true c.held-item.is c.loop-held.invariant some

pub returns-clause-none : goal.returns-clause-none
returns-clause-none g c = all_here c.args.sides.now c.loop-held.held-index c.loop-held-test.false c.loop-held.invariant
