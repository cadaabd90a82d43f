use Rattle.std.proofs.Common.{rules, ◌≡◌, false}
use Rattle.std.specs.Prelude.{OnOk, Ok, Err}
use Rattle.std.proofs.lemmas.Result.{IfErr-weaker as if_err}
use Rattle.lc_log_side.specs.Halting.{IsUntruncatable}
use Rattle.lc_log_side.specs.LogView.{LogView}
use Rattle.lc_node.specs.Logs.{IsLogOf}
use Rattle.lc_log_side.specs.Resets.{IsSpent}
use Rattle.lc_node.specs.Truncates.{MayTruncate}
use Rattle.lc_node.proofs.node.Node.may_truncate.Goals as goal

pub returns-clause-may : goal.returns-clause-may
returns-clause-may g c =
    let log = c.lock-log.result.0 in
    let own : IsLogOf c.args.self.now log = search rules in
    elim c.may_truncate-may.result as (λ r. OnOk r ((log.is_halted ≡ false) × (IsSpent log → ⊥)) → OnOk r (MayTruncate c.args.self.now)) [
      | Ok v ↦ λ may. (log, own, may.0, may.1)
      | Err fault ↦ λ may. tt
    ] c.may_truncate-may.ensures.may

pub returns-clause-refused : goal.returns-clause-refused
returns-clause-refused g c =
    let log = c.lock-log.result.0 in
    let own : IsLogOf c.args.self.now log = search rules in
    if_err c.may_truncate-may.result (λ fault. IsUntruncatable log fault) (λ fault. (x : LogView _) × IsLogOf c.args.self.now x × IsUntruncatable x fault)
    (λ fault why. (log, own, why)) c.may_truncate-may.ensures.refused
