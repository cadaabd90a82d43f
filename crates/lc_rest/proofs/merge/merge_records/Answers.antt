use Rattle.std.proofs.Common.{rules, ◌≡◌, ◌≢◌, ◌+◌, ◌<◌, ◌≤◌, ℕ, List, [], ◌∷◌, ◌++◌, length, sym, ◌∙◌, ap, subst, length-set, arith}
use Rattle.std.specs.Prelude.{slice_index_or, slice_set}
use Rattle.std.specs.Global.{Vec}
use Rattle.std.proofs.lemmas.List.{get_or_default, length-map}
use Rattle.lc_record.specs.declared.record.Record.{Record}
use Rattle.lc_rest.specs.Adopted.{IsNext}
use Rattle.lc_rest.specs.Merge.{AreDone, MayTurn, after_turns, counted_by, logs_of, number_at, record_at, times}
use Rattle.lc_rest.proofs.Merges.{records_left, times-other, after-more, done-more, found-record, is-stuck, left-less, turns-more}
use Rattle.lc_rest.proofs.merge.merge_records.Goals as goal

pub loop-node-preserved : goal.loop-node-preserved
loop-node-preserved c =
    let may : MayTurn (logs_of c.args.logs.now) c.loop-node.done.items c.loop-node.numbers c.in-Some.node = search rules in
    let known : c.in-Some.node < length c.args.logs.now = subst (λ (n : ℕ). c.in-Some.node < n) (length-map c.args.logs.now (λ (log : Vec Record). log.items)) may.known in
    let at : c.index_mut.result.now ≡ slice_index_or c.loop-node.done.items c.in-Some.node 0 =
    c.index_mut.ensures.value ∙ get_or_default c.loop-node.done.items c.in-Some.node c.index_mut.result.now 0 (subst (λ (n : ℕ). c.in-Some.node < n) (sym c.loop-node.invariant.0) known) in
    let order : c.push.new.self.items ≡ c.loop-node.order.items ++ c.in-Some.node ∷ [] = c.in_ok-push.ensures.items in
    let counted : c.count.new.numbers ≡ counted_by (record_at (logs_of c.args.logs.now) c.in-Some.node (slice_index_or c.loop-node.done.items c.in-Some.node 0)).locks c.loop-node.numbers = c.count.ensures
    ∙ ap (λ (r : Record). counted_by r.locks c.loop-node.numbers) (found-record c.args.logs.now c.loop-node.done.items c.in-Some.node c.index.result.now c.index-logs-node.result c.index-in-Some.result.now c.loop-node.invariant.0 known may.some
    c.index.ensures c.index-logs-node.is c.index-in-Some.ensures) in
    let from : AreDone (logs_of c.args.logs.now) (slice_set c.loop-node.done.items c.in-Some.node (slice_index_or c.loop-node.done.items c.in-Some.node 0 + 1)) (c.loop-node.order.items ++ c.in-Some.node ∷ []) =
    done-more (logs_of c.args.logs.now) c.loop-node.done.items c.loop-node.order.items c.in-Some.node (c.loop-node.invariant.0 ∙ sym (length-map c.args.logs.now (λ (log : Vec Record). log.items))) may.known may.some c.loop-node.invariant.2 in
    let logs : List (List Record) = logs_of c.args.logs.now in
    let own : slice_index_or c.loop-node.done.items c.in-Some.node 0 ≡ times c.in-Some.node c.loop-node.order.items = (c.loop-node.invariant.2 c.in-Some.node may.known).0 in
    let next : IsNext (number_at (after_turns logs c.args.numbers.now [] c.loop-node.order.items)) (record_at logs c.in-Some.node (times c.in-Some.node c.loop-node.order.items)) =
    subst (λ (l : List ℕ). IsNext (number_at l) (record_at logs c.in-Some.node (times c.in-Some.node c.loop-node.order.items))) c.loop-node.invariant.4
    (subst (λ (k : ℕ). IsNext (number_at c.loop-node.numbers) (record_at logs c.in-Some.node k)) own may.next) in (
      length-set c.loop-node.done.items _ _ ∙ c.loop-node.invariant.0,
      c.count.auto.numbers ∙ c.loop-node.invariant.1,
      rw (at, order) from,
      rw order (turns-more (logs_of c.args.logs.now) c.args.numbers.now [] c.loop-node.order.items c.in-Some.node c.loop-node.invariant.3 next),
      counted ∙ ap (λ (k : ℕ). counted_by (record_at logs c.in-Some.node k).locks c.loop-node.numbers) own
          ∙ ap (λ (l : List ℕ). counted_by (record_at logs c.in-Some.node (times c.in-Some.node c.loop-node.order.items)).locks l) c.loop-node.invariant.4
          ∙ sym (after-more logs c.args.numbers.now [] c.loop-node.order.items c.in-Some.node) ∙ ap (λ (ns : List ℕ). after_turns logs c.args.numbers.now [] ns) (sym order),
      λ node past. (let apart : c.in-Some.node ≢ node = λ e. absurd (omega (arith, e, known, past)) in rw order (times-other node c.in-Some.node c.loop-node.order.items apart ∙ c.loop-node.invariant.5 node past)),
    )

pub loop-node-smaller : goal.loop-node-smaller
loop-node-smaller c =
    let logs : List (List Record) = logs_of c.args.logs.now in
    let may : MayTurn logs c.loop-node.done.items c.loop-node.numbers c.in-Some.node = search rules in
    let known : c.in-Some.node < length c.loop-node.done.items =
    subst (λ (n : ℕ). c.in-Some.node < n) (length-map c.args.logs.now (λ (log : Vec Record). log.items) ∙ sym c.loop-node.invariant.0) may.known in
    let at : c.index_mut.result.now ≡ slice_index_or c.loop-node.done.items c.in-Some.node 0 =
    c.index_mut.ensures.value ∙ get_or_default c.loop-node.done.items c.in-Some.node c.index_mut.result.now 0 known in
    subst (λ (k : ℕ). records_left logs (slice_set c.loop-node.done.items c.in-Some.node (k + 1)) < records_left logs c.loop-node.done.items) (sym at)
    (left-less logs c.loop-node.done.items c.in-Some.node known may.some)

pub returns-in-Some-find_left-clause-stuck : goal.returns-in-Some-find_left-clause-stuck
returns-in-Some-find_left-clause-stuck c =
    let logs : List (List Record) = logs_of c.args.logs.now in
    let none : (n : ℕ) → MayTurn logs c.as_slice.result.now c.loop-node.numbers n → ⊥ = search rules in
    let halts : (n : ℕ) → MayTurn logs c.loop-node.done.items c.loop-node.numbers n → ⊥ =
    subst (λ (done : List ℕ). (n : ℕ) → MayTurn logs done c.loop-node.numbers n → ⊥) c.as_slice.ensures.value none in (
      c.loop-node.order.items,
      is-stuck logs c.args.numbers.now c.loop-node.done.items c.loop-node.numbers c.loop-node.order.items c.in-Some-find_left.node c.loop-node.invariant.2
          (λ n past. c.loop-node.invariant.5 n (subst (λ k. k ≤ n) (length-map c.args.logs.now (λ (log : Vec Record). log.items)) past)) c.loop-node.invariant.3 c.loop-node.invariant.4 halts
          (subst (λ (done : List ℕ). slice_index_or done c.in-Some-find_left.node 0 < length (slice_index_or logs c.in-Some-find_left.node [])) c.as_slice-2.ensures.value c.in-Some-find_left.ensures.left)
          (subst (λ (done : List ℕ). (n : ℕ) → n < c.in-Some-find_left.node → length (slice_index_or logs n []) ≤ slice_index_or done n 0) c.as_slice-2.ensures.value c.in-Some-find_left.ensures.least),
      c.loop-node.invariant.4,
    )
