use Rattle.std.proofs.Common.{subst, sym, refl, ◌∙◌, All, List, true≢false}
use Rattle.std.proofs.lemmas.List.{take_all}
use Rattle.std.proofs.lemmas.List.Elements.{All-more}
use Rattle.lc_record.specs.declared.record.Record.{Record}
use Rattle.lc_rest.specs.LogTest.{IsOwn}
use Rattle.lc_rest.proofs.log_test.keeps_own.Goals as goal

pub returns-then-not-is_own : goal.returns-then-not-is_own
returns-then-not-is_own c = (
  λ e. absurd (true≢false (sym e)),
  λ all. absurd (true≢false (sym (c.is_own.ensures.1 (subst (IsOwn c.args.geometry.now c.args.node) (sym c.whole-item.is) (all c.loop-whole.whole-index c.whole-item.result c.loop-whole-test.true))) ∙ c.if-not-is_own.true)),
)

pub loop-whole-preserved : goal.loop-whole-preserved
loop-whole-preserved c =
    All-more (IsOwn c.args.geometry.now c.args.node) c.args.log.now c.loop-whole.whole-index c.whole-item.result c.loop-whole-test.true c.loop-whole.invariant
    (subst (IsOwn c.args.geometry.now c.args.node) c.whole-item.is (c.is_own.ensures.0 c.if-not-is_own.false))

pub returns : goal.returns
returns c = (
  λ e. subst (λ (rs : List Record). All (IsOwn c.args.geometry.now c.args.node) rs) (take_all c.loop-whole.whole-index c.args.log.now c.loop-whole-test.false) c.loop-whole.invariant,
  λ all. refl,
)
