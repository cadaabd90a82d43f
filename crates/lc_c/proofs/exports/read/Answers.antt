use Rattle.std.proofs.Common.{◌∙◌, ap, length, refl, sym}
use Rattle.lc_model.specs.declared.event.Event.TheVariants.{Read}
use Rattle.lc_model.specs.declared.reply.Reply.TheVariants.{Bytes, Refused}
use Rattle.lc_c.specs.declared.handle.Handle.{Handle}
use Rattle.lc_c.proofs.Asked.{fills, fills_none, lent_same}
use Rattle.lc_c.proofs.exports.read.Goals as goal

pub returns-then-not-is_held : goal.returns-then-not-is_held
returns-then-not-is_held c =
    let held = c.is_held.ensures in
    fills_none c.args.handle.now c.is_held.new.self held.1 (sym held.0 ∙ c.if-not-is_held.true) _ _ c.of_refusal.result c.of_refusal.ensures

pub returns-in-Ok : goal.returns-in-Ok
returns-in-Ok c =
    let held = c.is_held.ensures in let old = c.args.handle.now in let session = c.get_mut.result.now in
    let event = Read c.args.node c.args.thread c.args.segment c.args.offset (length c.args.buffer.now) in
    fills old _ (lent_same c.is_held.new.self old session held.1 c.get_mut.ensures.value) session (sym held.0 ∙ c.if-not-is_held.false)
    (c.get_mut.ensures.value ∙ ap (λ (h : Handle). h.value) held.1) event (Bytes c.read.new.buffer) c.args.buffer.now c.read.new.buffer c.of_bytes.result
    c.in-Ok.ensures.bytes refl (c.of_bytes.ensures c.read.new.buffer)

pub returns-in-Err : goal.returns-in-Err
returns-in-Err c =
    let held = c.is_held.ensures in let old = c.args.handle.now in let session = c.get_mut.result.now in
    let event = Read c.args.node c.args.thread c.args.segment c.args.offset (length c.args.buffer.now) in
    fills old _ (lent_same c.is_held.new.self old session held.1 c.get_mut.ensures.value) session (sym held.0 ∙ c.if-not-is_held.false)
    (c.get_mut.ensures.value ∙ ap (λ (h : Handle). h.value) held.1) event (Refused c.in-Err.refusal) c.args.buffer.now c.read.new.buffer c.of_refusal-in-Err.result
    c.in-Err.ensures.refused c.in-Err.ensures.kept c.of_refusal-in-Err.ensures
