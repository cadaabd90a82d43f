use Rattle.std.proofs.Common.{◌≢◌, ◌%◌, ℕ, List, sym, subst, ◌∙◌}
use Rattle.std.specs.Prelude.{slice_index}
use Rattle.lc_record.proofs.ListLemmas.{OnOk_then as on_ok}
use Rattle.lc_recover.proofs.reset_steps.settle_log.Goals as goal

pub returns-clause-emptied : goal.returns-clause-emptied
returns-clause-emptied g c =
    on_ok c.settle_first_gate.result c.settle_first_gate.ensures.stable (λ stable records closing honest.
    let made = stable honest in
    let shut = closing honest in
    record { clean = made.1; closed = subst (λ (l : List ℕ). slice_index l 0 % 256 ≢ 165) (sym (made.0 ∙ shut.text)) shut.closed })
