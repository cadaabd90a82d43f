use Rattle.std.proofs.Common.{◌≡◌, ◌+◌, ◌-◌, ◌^◌, ◌<◌, ℕ, length, take, min, get_or, sym, ap, ap₂, ◌∙◌, arith}
use Rattle.std.specs.List.{sum_by}
use Rattle.std.proofs.lemmas.List.{take_all}
use Rattle.std.proofs.lemmas.List.Sums.{sum_by_more}
use Rattle.lc_events.specs.Unfinished.{commits_at, transactions_at}
use Rattle.lc_events.specs.declared.unfinished.Unfinished.{Unfinished}
use Rattle.lc_events.proofs.running.Running.unfinished.Goals as goal

pub loop-node-preserved : goal.loop-node-preserved
loop-node-preserved g c =
    let a = g.D.Area in
    let nodes = c.args.self.now.nodes.items in
    let at = c.loop-node.node-index in
    let node = c.node-item.result in
    let same : c.deref-node-items.result.now ≡ nodes = c.deref-node-items.ensures.value in
    let inside : at < length nodes = (let test = c.loop-node-test.true in let long = ap length same in omega (arith, test, long)) in
    let its : get_or nodes at node ≡ node = ap (λ ns. get_or ns at node) (sym same) ∙ sym c.node-item.is in
    let commits : sum_by (commits_at a) (take (at + 1) nodes) ≡ sum_by (commits_at a) (take at nodes) + c.unacknowledged.result =
    sum_by_more (commits_at a) nodes at node inside ∙ ap (λ n. sum_by (commits_at a) (take at nodes) + commits_at a n) its ∙ ap (λ (n : ℕ). sum_by (commits_at a) (take at nodes) + n) (sym c.unacknowledged.ensures) in
    let transactions : sum_by (transactions_at a) (take (at + 1) nodes) ≡ sum_by (transactions_at a) (take at nodes) + c.begun-transactions.result =
    sum_by_more (transactions_at a) nodes at node inside ∙ ap (λ n. sum_by (transactions_at a) (take at nodes) + transactions_at a n) its ∙ ap (λ (n : ℕ). sum_by (transactions_at a) (take at nodes) + n) (sym c.begun-transactions.ensures.count) in
    record {
      commits = (let sum = c.saturating_add-commits.ensures in let before = c.loop-node.invariant.commits in omega (arith, sum, before, commits));
      transactions = (let before = c.loop-node.invariant.transactions in omega (arith, before, transactions));
      few = (let before = c.loop-node.invariant.few in let more = c.begun-transactions.ensures.few in omega (arith, before, more));
    }

pub returns : goal.returns
returns g c =
    let a = g.D.Area in
    let nodes = c.args.self.now.nodes.items in
    let same : c.deref-node-items.result.now ≡ nodes = c.deref-node-items.ensures.value in
    let whole : take c.loop-node.node-index nodes ≡ nodes = take_all c.loop-node.node-index nodes (let test = c.loop-node-test.false in let long = ap length same in omega (arith, test, long)) in
    ap₂ (λ (m n : ℕ). let result : Unfinished = record { commits = m; transactions = n } in result)
    (c.loop-node.invariant.commits ∙ ap (λ ns. min (2 ^ 64 - 1) (sum_by (commits_at a) ns)) whole)
    (c.loop-node.invariant.transactions ∙ ap (λ ns. sum_by (transactions_at a) ns) whole)
