use Rattle.std.proofs.Common.{◌∙◌, ◌<◌, ℕ, [], List, length, sym, refl, subst, arith, below_more, true≢false}
use Rattle.std.specs.Prelude.{nat_lt, slice_index_or}
use Rattle.std.proofs.lemmas.List.{length-map}
use Rattle.std.specs.Global.{Vec}
use Rattle.lc_record.specs.declared.record.Record.{Record}
use Rattle.lc_rest.specs.Merge.{logs_of, no_record, record_at}
use Rattle.lc_rest.specs.TokenTest.{IsKeptRecord}
use Rattle.lc_rest.proofs.TokenTests.{log-items}
use Rattle.lc_rest.proofs.token_test.keeps_logs.Goals as goal

pub loop-node-preserved : goal.loop-node-preserved
loop-node-preserved c =
    let logs : List (List Record) = logs_of c.args.logs.now in
    let node = c.loop-node.node in
    let items = c.as_slice.ensures.value ∙ log-items c.args.logs.now node c.index-logs-node.result c.loop-node-test.true c.index-logs-node.is in
    below_more (λ n. (k : ℕ) → k < length (slice_index_or logs n [])
    → IsKeptRecord c.args.read.now.segment c.args.least c.args.read.now.token.now.clean c.args.read.now.pages c.args.read.now.holder c.args.read.now.area.now c.args.read.now.token.now.pages (nat_lt k (slice_index_or c.args.stable.now n 0)) (record_at logs n k)) node c.loop-node.invariant
    (subst (λ (l : List Record). (k : ℕ) → k < length l
    → IsKeptRecord c.args.read.now.segment c.args.least c.args.read.now.token.now.clean c.args.read.now.pages c.args.read.now.holder c.args.read.now.area.now c.args.read.now.token.now.pages (nat_lt k (slice_index_or c.args.stable.now node 0)) (slice_index_or l k no_record)) items
    (c.keeps_log.ensures.0 c.if-not-keeps_log.false))

pub returns-then-not-keeps_log : goal.returns-then-not-keeps_log
returns-then-not-keeps_log c =
    let logs : List (List Record) = logs_of c.args.logs.now in
    let node = c.loop-node.node in
    let items = c.as_slice.ensures.value ∙ log-items c.args.logs.now node c.index-logs-node.result c.loop-node-test.true c.index-logs-node.is in
    let known : node < length logs = (let long = length-map c.args.logs.now (λ (log : Vec Record). log.items) in omega (arith, long, c.loop-node-test.true)) in (
      λ e. absurd (true≢false (sym e)),
      λ all. absurd (true≢false (sym (c.keeps_log.ensures.1
          (subst (λ (l : List Record). (k : ℕ) → k < length l
          → IsKeptRecord c.args.read.now.segment c.args.least c.args.read.now.token.now.clean c.args.read.now.pages c.args.read.now.holder c.args.read.now.area.now c.args.read.now.token.now.pages (nat_lt k (slice_index_or c.args.stable.now node 0)) (slice_index_or l k no_record)) (sym items)
          (λ k less. all node k known less)))
          ∙ c.if-not-keeps_log.true)),
    )

pub returns : goal.returns
returns c = (
  λ e n k node. c.loop-node.invariant n (let long = length-map c.args.logs.now (λ (log : Vec Record). log.items) in omega (arith, node, long, c.loop-node-test.false)) k,
  λ all. refl,
)
