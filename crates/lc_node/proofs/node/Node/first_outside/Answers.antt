use Rattle.std.proofs.Common.{Some, sym, ap, ◌∙◌, true≢false}
use Rattle.std.proofs.lemmas.Option.{same_Some as some_same}
use Rattle.lc_node.proofs.Outside.{looks, looks_on, outside_now, none_outside, all_here}
use Rattle.lc_node.proofs.node.Node.first_outside.Goals as goal

pub loop-segment-init : goal.loop-segment-init
loop-segment-init g c = looks c.args.self.now c.args.segments.now

pub returns-then-not-has-clause-first : goal.returns-then-not-has-clause-first
returns-then-not-has-clause-first g c = λ s.
    let iff = outside_now c.args.self.now c.args.segments.now c.loop-segment.segment-index c.loop-segment-test.true c.loop-segment.invariant (λ has. true≢false (sym (c.has.ensures.1 has) ∙ c.if-not-has.true)) s in
    ((λ e. iff.0 (some_same _ _ e)), (λ first. ap (λ x. Some x) (iff.1 first)))

pub loop-segment-preserved : goal.loop-segment-preserved
loop-segment-preserved g c = looks_on c.args.self.now c.args.segments.now c.loop-segment.segment-index c.loop-segment-test.true c.loop-segment.invariant (c.has.ensures.0 c.if-not-has.false)

pub returns-clause-first : goal.returns-clause-first
returns-clause-first g c = λ s. (
  (λ e. absurd cc),
  (λ first. absurd (none_outside c.args.self.now c.args.segments.now c.loop-segment.segment-index c.loop-segment-test.false c.loop-segment.invariant s first)),
)

pub returns-clause-none : goal.returns-clause-none
returns-clause-none g c = all_here c.args.self.now c.args.segments.now c.loop-segment.segment-index c.loop-segment-test.false c.loop-segment.invariant
