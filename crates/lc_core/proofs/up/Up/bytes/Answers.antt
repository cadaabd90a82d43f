use Rattle.std.proofs.Common.{refl}
use Rattle.std.proofs.lemmas.Result.{IfErr-weaker, IfOk-weaker}
use Rattle.lc_model.specs.declared.event.Event.TheVariants.{Read}
use Rattle.lc_model.specs.declared.reply.Reply.TheVariants.{Bytes, Refused}
use Rattle.lc_core.proofs.Layering.{up_steps}
use Rattle.lc_core.proofs.up.Up.bytes.Goals as goal

pub returns-clause-bytes : goal.returns-clause-bytes
returns-clause-bytes g c = IfOk-weaker c.bytes.result _ _
    (λ bytes steps. up_steps g.D.Area c.args.self.now c.args.self.now (Read c.args.node c.args.thread c.args.segment c.args.offset c.args.len) (Bytes bytes.now) refl (λ m x. tt) refl steps)
    c.bytes.ensures.bytes

pub returns-clause-refused : goal.returns-clause-refused
returns-clause-refused g c = IfErr-weaker c.bytes.result _ _
    (λ refusal steps. up_steps g.D.Area c.args.self.now c.args.self.now (Read c.args.node c.args.thread c.args.segment c.args.offset c.args.len) (Refused refusal) refl (λ m x. tt) refl steps)
    c.bytes.ensures.refused
