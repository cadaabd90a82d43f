use Rattle.std.proofs.Common.{◌∙◌, sym, refl, subst, arith, below_more, true≢false}
use Rattle.std.specs.Prelude.{nat_lt, slice_index_or}
use Rattle.std.proofs.lemmas.List.{get_or_default}
use Rattle.lc_record.specs.declared.record.Record.{Record}
use Rattle.lc_rest.specs.Merge.{no_record}
use Rattle.lc_rest.specs.TokenTest.{IsKeptRecord}
use Rattle.lc_rest.proofs.token_test.keeps_log.Goals as goal

pub loop-k-preserved : goal.loop-k-preserved
loop-k-preserved c =
    below_more (λ k. IsKeptRecord c.args.read.now.segment c.args.least c.args.read.now.token.now.clean c.args.read.now.pages c.args.read.now.holder c.args.read.now.area.now c.args.read.now.token.now.pages (nat_lt k c.args.stable) (slice_index_or c.args.log.now k no_record)) c.loop-k.k c.loop-k.invariant
    (subst (λ (r : Record). IsKeptRecord c.args.read.now.segment c.args.least c.args.read.now.token.now.clean c.args.read.now.pages c.args.read.now.holder c.args.read.now.area.now c.args.read.now.token.now.pages (nat_lt c.loop-k.k c.args.stable) r)
    (c.index-log-k.is ∙ get_or_default c.args.log.now c.loop-k.k c.index-log-k.result no_record c.loop-k-test.true) (c.keeps_record.ensures.0 c.if-not-keeps_record.false))

pub returns-then-not-keeps_record : goal.returns-then-not-keeps_record
returns-then-not-keeps_record c = (
  λ e. absurd (true≢false (sym e)),
  λ all. absurd (true≢false (sym (c.keeps_record.ensures.1
      (subst (λ (r : Record). IsKeptRecord c.args.read.now.segment c.args.least c.args.read.now.token.now.clean c.args.read.now.pages c.args.read.now.holder c.args.read.now.area.now c.args.read.now.token.now.pages (nat_lt c.loop-k.k c.args.stable) r)
      (sym (c.index-log-k.is ∙ get_or_default c.args.log.now c.loop-k.k c.index-log-k.result no_record c.loop-k-test.true)) (all c.loop-k.k c.loop-k-test.true)))
      ∙ c.if-not-keeps_record.true)),
)

pub returns : goal.returns
returns c = (λ e k less. c.loop-k.invariant k (omega (arith, less, c.loop-k-test.false)), λ all. refl)
