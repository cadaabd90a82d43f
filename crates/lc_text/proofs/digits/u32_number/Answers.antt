use Rattle.std.proofs.Common.{◌^◌, lit≤, ◌∙◌, sym}
use Rattle.lc_text.proofs.Numbers.{narrow_none, fits}
use Rattle.lc_text.proofs.digits.u32_number.Goals as goal

pub returns-in_err-number : goal.returns-in_err-number
returns-in_err-number c =
    let e = narrow_none (2 ^ 32) (2 ^ 64) c.args.word.now (lit≤ tt) (sym c.number.ensures ∙ c.in_err-number.was) in
    cc

pub returns : goal.returns
returns c =
    c.ok.ensures.value ∙ fits (2 ^ 32) (2 ^ 64) c.in_ok-number.field-0 c.args.word.now c.try_from.result (lit≤ tt) (sym c.number.ensures ∙ c.in_ok-number.was) c.try_from.ensures
