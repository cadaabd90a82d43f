use Rattle.std.proofs.Common.{◌∙◌, ap, None, Some, refl, sym}
use Rattle.lc_c.specs.declared.handle.Handle.{Handle}
use Rattle.lc_c.proofs.Asked.{lent_same, tells_call}
use Rattle.lc_c.proofs.exports.lcrvm_session_last_call.Goals as goal

pub returns-in-Some : goal.returns-in-Some
returns-in-Some c =
    let held = c.is_held.ensures in let old = c.args.handle.now in let session = c.get_mut.result.now in
    tells_call old _ (lent_same c.is_held.new.self old session held.1 c.get_mut.ensures.value) session (sym held.0 ∙ c.if-not-is_held.false)
    (c.get_mut.ensures.value ∙ ap (λ (h : Handle). h.value) held.1) c.args.place (Some c.in-Some.area.now) _ c.args.call.now c.of.result c.in-Some.ensures refl c.of.ensures

pub returns-in-None : goal.returns-in-None
returns-in-None c =
    let held = c.is_held.ensures in let old = c.args.handle.now in let session = c.get_mut.result.now in
    tells_call old _ (lent_same c.is_held.new.self old session held.1 c.get_mut.ensures.value) session (sym held.0 ∙ c.if-not-is_held.false)
    (c.get_mut.ensures.value ∙ ap (λ (h : Handle). h.value) held.1) c.args.place None _ c.args.call.now c.args.call.now c.in-None.ensures refl refl
