use Rattle.std.proofs.Common.{◌≡◌, ◌+◌, ◌∙◌, List, ap, take, arith}
use Rattle.std.specs.Prelude.{slice_index_or}
use Rattle.std.specs.Global.{Vec}
use Rattle.std.proofs.lemmas.List.{take_all}
use Rattle.lc_record.specs.declared.record.Record.{Record}
use Rattle.lc_rest.specs.Merge.{logs_of}
use Rattle.lc_rest.specs.Stable.{stable_count}
use Rattle.lc_rest.specs.TokenTest.{count_log}
use Rattle.lc_rest.proofs.Stables.{stable-more, stable-most}
use Rattle.lc_rest.proofs.stable.stable_number.Goals as goal

pub overflow_add-number : goal.overflow_add-number
overflow_add-number c =
    let logs = c.args.logs.now in
    let node = c.loop-node.node in
    let log : Vec Record = c.index-logs-node.result in
    let own : c.count_stable.result ≡ count_log c.args.segment (take (slice_index_or c.args.stable.now node 0) (slice_index_or logs node log).items) =
    c.count_stable.ensures ∙ ap (λ rs. count_log c.args.segment (take (slice_index_or c.args.stable.now node 0) rs)) (c.as_slice.ensures.value ∙ ap (λ (l : Vec Record). l.items) c.index-logs-node.is) in
    let more = stable-more c.args.segment logs c.args.stable.now node log c.loop-node-test.true in
    let most = stable-most c.args.segment (node + 1) logs c.args.stable.now in
    omega (arith, own, more, most, c.loop-node.invariant, c.requires.small)

pub loop-node-preserved : goal.loop-node-preserved
loop-node-preserved c =
    let logs = c.args.logs.now in
    let node = c.loop-node.node in
    let log : Vec Record = c.index-logs-node.result in
    let own : c.count_stable.result ≡ count_log c.args.segment (take (slice_index_or c.args.stable.now node 0) (slice_index_or logs node log).items) =
    c.count_stable.ensures ∙ ap (λ rs. count_log c.args.segment (take (slice_index_or c.args.stable.now node 0) rs)) (c.as_slice.ensures.value ∙ ap (λ (l : Vec Record). l.items) c.index-logs-node.is) in
    let more = stable-more c.args.segment logs c.args.stable.now node log c.loop-node-test.true in
    omega (arith, own, more, c.loop-node.invariant)

pub returns : goal.returns
returns c = c.loop-node.invariant ∙ ap (λ (l : List (Vec Record)). c.args.first + stable_count c.args.segment (logs_of l) c.args.stable.now) (take_all c.loop-node.node c.args.logs.now c.loop-node-test.false)
