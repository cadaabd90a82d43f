use Rattle.std.proofs.Common.{◌∙◌, ◌<◌, List, length, subst, arith}
use Rattle.std.specs.Prelude.{slice_index_or}
use Rattle.std.specs.Global.{Vec}
use Rattle.std.proofs.lemmas.List.{length-map}
use Rattle.lc_record.specs.declared.record.Record.{Record}
use Rattle.lc_rest.specs.Merge.{logs_of}
use Rattle.lc_rest.specs.TokenTest.{IsLowered}
use Rattle.lc_rest.proofs.KeptTokens.{least-last, least-more}
use Rattle.lc_rest.proofs.TokenTests.{log-items}
use Rattle.lc_rest.proofs.token_test.least_waiting.Goals as goal

pub loop-node-preserved : goal.loop-node-preserved
loop-node-preserved c =
    let logs : List (List Record) = logs_of c.args.logs.now in
    let node = c.loop-node.node in
    let items = c.as_slice.ensures.value ∙ log-items c.args.logs.now node c.index-logs-node.result c.loop-node-test.true c.index-logs-node.is in
    let known : node < length logs = (let long = length-map c.args.logs.now (λ (log : Vec Record). log.items) in omega (arith, long, c.loop-node-test.true)) in
    least-more c.args.segment c.args.seq logs c.args.stable.now node c.loop-node.least c.lowered-least.result known
    (subst (λ (l : List Record). IsLowered c.args.segment l (slice_index_or c.args.stable.now node 0) (length l) c.loop-node.least c.lowered-least.result) items c.lowered-least.ensures)
    c.loop-node.invariant

pub returns : goal.returns
returns c =
    let long = length-map c.args.logs.now (λ (log : Vec Record). log.items) in
    least-last c.args.segment c.args.seq (logs_of c.args.logs.now) c.args.stable.now c.loop-node.node c.loop-node.least (omega (arith, long, c.loop-node-test.false)) c.loop-node.invariant
