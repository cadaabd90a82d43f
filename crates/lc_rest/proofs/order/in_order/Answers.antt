use Rattle.std.proofs.Common.{rules, ◌≡◌, ◌+◌, ◌<◌, [], ◌∷◌, ◌++◌, List, length, map, take, sym, ◌∙◌, ap, subst, arith, Bor, length-set}
use Rattle.std.specs.Prelude.{slice_index_or, slice_set}
use Rattle.std.specs.Global.{Vec}
use Rattle.std.proofs.lemmas.List.{length-map, map-append, get_or_default, take_more}
use Rattle.lc_record.specs.declared.record.Record.{Record}
use Rattle.lc_rest.specs.Merge.{AreDone, logs_of, merged_after, record_at, times}
use Rattle.lc_rest.proofs.Merges.{done-more, found-record}
use Rattle.lc_rest.proofs.Orders.{merged-more, turn-fits}
use Rattle.lc_rest.proofs.TokenTests.{log-items}
use Rattle.lc_rest.proofs.order.in_order.Goals as goal

pub bounds-logs-node : goal.bounds-logs-node
bounds-logs-node c =
    subst (λ k. slice_index_or c.args.order.now c.loop-node.node-index 0 < k) (length-map c.args.logs.now (λ (log : Vec Record). log.items))
    (turn-fits (logs_of c.args.logs.now) c.args.order.now c.loop-node.node-index 0 c.loop-node-test.true c.requires).0

pub offset_bounds-logs-node : goal.offset_bounds-logs-node
offset_bounds-logs-node c =
    let within : slice_index_or c.args.order.now c.loop-node.node-index 0 < length c.args.logs.now =
    subst (λ k. slice_index_or c.args.order.now c.loop-node.node-index 0 < k) (length-map c.args.logs.now (λ (log : Vec Record). log.items))
    (turn-fits (logs_of c.args.logs.now) c.args.order.now c.loop-node.node-index 0 c.loop-node-test.true c.requires).0 in
    search rules

pub index-requires : goal.index-requires
index-requires c =
    let within : slice_index_or c.args.order.now c.loop-node.node-index 0 < length c.args.logs.now =
    subst (λ k. slice_index_or c.args.order.now c.loop-node.node-index 0 < k) (length-map c.args.logs.now (λ (log : Vec Record). log.items))
    (turn-fits (logs_of c.args.logs.now) c.args.order.now c.loop-node.node-index 0 c.loop-node-test.true c.requires).0 in
    let there : slice_index_or c.args.order.now c.loop-node.node-index 0 < length c.loop-node.done.items = subst (λ k. slice_index_or c.args.order.now c.loop-node.node-index 0 < k) (sym c.loop-node.invariant.0) within in
    search rules

pub index_mut-requires : goal.index_mut-requires
index_mut-requires c =
    let within : slice_index_or c.args.order.now c.loop-node.node-index 0 < length c.args.logs.now =
    subst (λ k. slice_index_or c.args.order.now c.loop-node.node-index 0 < k) (length-map c.args.logs.now (λ (log : Vec Record). log.items))
    (turn-fits (logs_of c.args.logs.now) c.args.order.now c.loop-node.node-index 0 c.loop-node-test.true c.requires).0 in
    let there : slice_index_or c.args.order.now c.loop-node.node-index 0 < length c.loop-node.done.items = subst (λ k. slice_index_or c.args.order.now c.loop-node.node-index 0 < k) (sym c.loop-node.invariant.0) within in
    search rules

pub index-requires-in-loop-node : goal.index-requires-in-loop-node
index-requires-in-loop-node c =
    let logs : List (List Record) = logs_of c.args.logs.now in
    let order = c.args.order.now in
    let i = c.loop-node.node-index in
    let n = slice_index_or order i 0 in
    let turn = turn-fits logs order i 0 c.loop-node-test.true c.requires in
    let within : n < length c.args.logs.now = subst (λ k. n < k) (length-map c.args.logs.now (λ (log : Vec Record). log.items)) turn.0 in
    let at : c.index.result.now ≡ times n (take i order) =
    c.index.ensures ∙ get_or_default c.loop-node.done.items n c.index.result.now 0 (subst (λ k. n < k) (sym c.loop-node.invariant.0) within) ∙ (c.loop-node.invariant.1 n turn.0).0 in
    let items : length c.index-logs-node.result.items ≡ length (slice_index_or logs n []) = ap length (log-items c.args.logs.now n c.index-logs-node.result within c.index-logs-node.is) in
    let some = turn.1 in
    omega (arith, at, items, some)

pub overflow_add-index_mut : goal.overflow_add-index_mut
overflow_add-index_mut c =
    let logs : List (List Record) = logs_of c.args.logs.now in
    let order = c.args.order.now in
    let i = c.loop-node.node-index in
    let n = slice_index_or order i 0 in
    let turn = turn-fits logs order i 0 c.loop-node-test.true c.requires in
    let within : n < length c.args.logs.now = subst (λ k. n < k) (length-map c.args.logs.now (λ (log : Vec Record). log.items)) turn.0 in
    let at : c.index_mut.result.now ≡ times n (take i order) =
    c.index_mut.ensures.value ∙ get_or_default c.loop-node.done.items n c.index_mut.result.now 0 (subst (λ k. n < k) (sym c.loop-node.invariant.0) within) ∙ (c.loop-node.invariant.1 n turn.0).0 in
    let items : length c.index-logs-node.result.items ≡ length (slice_index_or logs n []) = ap length (log-items c.args.logs.now n c.index-logs-node.result within c.index-logs-node.is) in
    let some = turn.1 in
    let below : c.index_mut.result.now < length c.index-logs-node.result.items = omega (arith, at, items, some) in
    search rules

pub loop-node-preserved : goal.loop-node-preserved
loop-node-preserved c =
    let logs : List (List Record) = logs_of c.args.logs.now in
    let order = c.args.order.now in
    let i = c.loop-node.node-index in
    let n = slice_index_or order i 0 in
    let turn = turn-fits logs order i 0 c.loop-node-test.true c.requires in
    let within : n < length c.args.logs.now = subst (λ k. n < k) (length-map c.args.logs.now (λ (log : Vec Record). log.items)) turn.0 in
    let at : c.index_mut.result.now ≡ slice_index_or c.loop-node.done.items n 0 =
    c.index_mut.ensures.value ∙ get_or_default c.loop-node.done.items n c.index_mut.result.now 0 (subst (λ k. n < k) (sym c.loop-node.invariant.0) within) in
    let own = (c.loop-node.invariant.1 n turn.0).0 in
    let some : slice_index_or c.loop-node.done.items n 0 < length (slice_index_or logs n []) = subst (λ k. k < length (slice_index_or logs n [])) (sym own) turn.1 in
    let more : take (i + 1) order ≡ take i order ++ n ∷ [] = take_more order i 0 c.loop-node-test.true in
    let done : AreDone logs (slice_set c.loop-node.done.items n (slice_index_or c.loop-node.done.items n 0 + 1)) (take i order ++ n ∷ []) =
    done-more logs c.loop-node.done.items (take i order) n (c.loop-node.invariant.0 ∙ sym (length-map c.args.logs.now (λ (log : Vec Record). log.items))) turn.0 some c.loop-node.invariant.1 in
    let record_is : c.index-in-loop-node.result.now ≡ record_at logs n (times n (take i order)) =
    found-record c.args.logs.now c.loop-node.done.items n c.index.result.now c.index-logs-node.result c.index-in-loop-node.result.now c.loop-node.invariant.0 within some c.index.ensures c.index-logs-node.is c.index-in-loop-node.ensures
    ∙ ap (λ k. record_at logs n k) own in (
      length-set c.loop-node.done.items _ _ ∙ c.loop-node.invariant.0,
      rw (at, more) done,
      rw more (ap (map (λ (r : Bor Record). r.now)) c.in_ok-push.ensures.items ∙ map-append (λ (r : Bor Record). r.now) c.loop-node.records.items (c.index-in-loop-node.result ∷ [])
          ∙ ap (λ (rs : List Record). rs ++ c.index-in-loop-node.result.now ∷ []) c.loop-node.invariant.2
          ∙ ap (λ (r : Record). merged_after logs [] (take i order) ++ r ∷ []) record_is
          ∙ sym (merged-more logs [] (take i order) n)),
    )
