use Rattle.std.proofs.Common.{rules}
use Rattle.std.specs.Prelude.{IfOk, Ok, Err}
use Rattle.std.proofs.lemmas.Result.{IfErr-weaker as if_err}
use Rattle.lc_log_side.specs.Flushes.{Flushes, IsUnflushed}
use Rattle.lc_node.specs.Flushes.{HasFlushed, HasNotFlushed}
use Rattle.lc_node.specs.Logs.{IsLogOf}
use Rattle.lc_log_side.specs.Published.{Publishes}
use Rattle.lc_node.proofs.node.Node.flush.Goals as goal

pub returns-clause-flushed : goal.returns-clause-flushed
returns-clause-flushed g c =
    let node = c.args.self.now in
    let old = c.lock-log.result.0 in
    let new = c.flush_log-flushed.new.log in
    let own : IsLogOf node old = search rules in
    elim c.flush_log-flushed.result as (λ r. IfOk r (λ count. Flushes node.stage.room old count new) → IfOk r (λ count. Publishes old count new) → IfOk r (HasFlushed node)) [
      | Ok count ↦ λ flushes publishes. record { old = old; new = new; own = own; flushes = flushes; publishes = publishes }
      | Err fault ↦ λ flushes publishes. tt
    ] c.flush_log-flushed.ensures.flushed c.flush_log-flushed.ensures.published

pub returns-clause-refused : goal.returns-clause-refused
returns-clause-refused g c =
    let node = c.args.self.now in
    let old = c.lock-log.result.0 in
    let new = c.flush_log-flushed.new.log in
    let own : IsLogOf node old = search rules in
    if_err c.flush_log-flushed.result (λ fault. IsUnflushed g.D.Area old fault new) (HasNotFlushed g.D.Area node)
    (λ fault refused. record { old = old; new = new; own = own; refused = refused }) c.flush_log-flushed.ensures.refused
