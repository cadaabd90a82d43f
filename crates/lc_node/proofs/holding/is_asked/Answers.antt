use Rattle.std.proofs.Common.{refl, sym, ◌∙◌}
use Rattle.lc_node.proofs.Asking.{asked_now, asked_later, asked_none}
use Rattle.lc_node.proofs.holding.is_asked.Goals as goal

pub loop-asked-init : goal.loop-asked-init
loop-asked-init c = refl

pub returns-then-asked-segment : goal.returns-then-asked-segment
returns-then-asked-segment c = sym (asked_now c.args.segments.now c.loop-asked.asked-index c.args.segment c.loop-asked-test.true c.if-asked-segment.true) ∙ c.loop-asked.invariant

pub loop-asked-preserved : goal.loop-asked-preserved
loop-asked-preserved c = sym (asked_later c.args.segments.now c.loop-asked.asked-index c.args.segment c.loop-asked-test.true c.if-asked-segment.false) ∙ c.loop-asked.invariant

pub returns : goal.returns
returns c = sym (asked_none c.args.segments.now c.loop-asked.asked-index c.args.segment c.loop-asked-test.false) ∙ c.loop-asked.invariant
