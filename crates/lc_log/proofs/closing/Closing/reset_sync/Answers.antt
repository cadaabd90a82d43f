use Rattle.std.proofs.Common.{Bool, ap, subst}
use Rattle.std.specs.Prelude.{is_ok}
use Rattle.lc_log.specs.OneCall.{IsOneCall}
use Rattle.lc_log.proofs.closing.Closing.reset_sync.Goals as goal

pub returns-in-Ok-clause-call : goal.returns-in-Ok-clause-call
returns-in-Ok-clause-call g c = subst (λ (ok : Bool). IsOneCall g.D.Area ok c.args.self.area c.settle_first_gate.new.area) (ap is_ok c.in-Ok.is) c.settle_first_gate.ensures.call

pub returns-in-Err-clause-call : goal.returns-in-Err-clause-call
returns-in-Err-clause-call g c = subst (λ (ok : Bool). IsOneCall g.D.Area ok c.args.self.area c.settle_first_gate.new.area) (ap is_ok c.in-Err.is) c.settle_first_gate.ensures.call
