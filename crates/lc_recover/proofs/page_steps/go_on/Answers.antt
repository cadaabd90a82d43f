use Rattle.std.proofs.Common.{Bool, sym, subst}
use Rattle.std.specs.Prelude.{is_ok}
use Rattle.lc_log.specs.OneCall.{IsOneCall}
use Rattle.lc_recover.proofs.PageCalls.{calls_call}
use Rattle.lc_recover.proofs.page_steps.go_on.Goals as goal

pub returns-clause-device : goal.returns-clause-device
returns-clause-device g c =
    subst (λ (ok : Bool). IsOneCall g.D.Area ok c.args.area.now c.step.new.area) (sym c.map_err.ensures.variant)
    (calls_call g.D.Area c.args.write c.args.area.now c.step.new.area (is_ok c.step.result) c.step.ensures.call)
