use Rattle.std.proofs.Common.{◌∙◌, ap, sym}
use Rattle.std.specs.Prelude.{is_some}
use Rattle.std.specs.Option.{unwrap_or}
use Rattle.lc_c.specs.declared.handle.Handle.{Handle}
use Rattle.lc_c.proofs.Asked.{lent_same, tells_bytes}
use Rattle.lc_c.proofs.exports.lcrvm_session_bytes.Goals as goal

pub returns-in-Some : goal.returns-in-Some
returns-in-Some c =
    let held = c.is_held.ensures in let old = c.args.handle.now in let session = c.get_mut.result.now in let olds = c.args.buffer.now in let shown = c.in-Some.ensures in
    tells_bytes old _ (lent_same c.is_held.new.self old session held.1 c.get_mut.ensures.value) session (sym held.0 ∙ c.if-not-is_held.false)
    (c.get_mut.ensures.value ∙ ap (λ (h : Handle). h.value) held.1) c.args.place c.args.at shown.0 _ olds c.copy_from_slice.new.self
    shown.1 (ap is_some shown.2) (c.copy_from_slice.ensures.after ∙ ap (λ window. unwrap_or window olds) shown.2)

pub returns-in-None : goal.returns-in-None
returns-in-None c =
    let held = c.is_held.ensures in let old = c.args.handle.now in let session = c.get_mut.result.now in let olds = c.args.buffer.now in let shown = c.in-None.ensures in
    tells_bytes old _ (lent_same c.is_held.new.self old session held.1 c.get_mut.ensures.value) session (sym held.0 ∙ c.if-not-is_held.false)
    (c.get_mut.ensures.value ∙ ap (λ (h : Handle). h.value) held.1) c.args.place c.args.at shown.0 _ olds olds
    shown.1 (ap is_some shown.2) (ap (λ window. unwrap_or window olds) shown.2)
