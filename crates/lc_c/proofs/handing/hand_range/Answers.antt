use Rattle.std.proofs.Common.{rules, ◌≡◌, refl}
use Rattle.std.specs.Prelude.{Ok, Err}
use Rattle.lc_c.proofs.handing.hand_range.Goals as goal

pub returns-in_err-set_range : goal.returns-in_err-set_range
returns-in_err-set_range c =
    let fault = c.in_err-set_range.field-0.0 in let is : c.from_residual.result ≡ Err fault = search rules in
    (Err fault, c.set_range.new.self, c.in_err-set_range.ensures, (is, refl))

pub returns-in-Ok : goal.returns-in-Ok
returns-in-Ok c = (Ok tt, c.set_range.new.self, c.in_ok-set_range.ensures, (Ok tt, c.in-Ok.ensures, refl))

pub returns-in-Err : goal.returns-in-Err
returns-in-Err c = (Ok tt, c.set_range.new.self, c.in_ok-set_range.ensures, (Err c.in-Err.refusal, c.in-Err.ensures, refl))
