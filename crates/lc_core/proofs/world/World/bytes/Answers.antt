use Rattle.std.proofs.Common.{refl}
use Rattle.std.proofs.lemmas.Result.{IfErr-weaker, IfOk-weaker}
use Rattle.lc_model.specs.declared.event.Event.TheVariants.{Read}
use Rattle.lc_model.specs.declared.reply.Reply.TheVariants.{Bytes, Refused}
use Rattle.lc_core.proofs.Layering.{steps_down, steps_up}
use Rattle.lc_core.proofs.world.World.bytes.Goals as goal

pub returns-in-Up-clause-bytes : goal.returns-in-Up-clause-bytes
returns-in-Up-clause-bytes g c = IfOk-weaker c.bytes.result _ _
    (λ bytes steps. steps_up g.D.Area c.args.self.now c.args.self.now c.in-Up.up c.in-Up.up (Read c.args.node c.args.thread c.args.segment c.args.offset c.args.len) (Bytes bytes.now) c.in-Up.is c.in-Up.is (λ e. absurd cc) steps)
    c.bytes.ensures.bytes

pub returns-in-Up-clause-refused : goal.returns-in-Up-clause-refused
returns-in-Up-clause-refused g c = IfErr-weaker c.bytes.result _ _
    (λ refusal steps. steps_up g.D.Area c.args.self.now c.args.self.now c.in-Up.up c.in-Up.up (Read c.args.node c.args.thread c.args.segment c.args.offset c.args.len) (Refused refusal) c.in-Up.is c.in-Up.is (λ e. absurd cc) steps)
    c.bytes.ensures.refused

pub returns-in_default-clause-refused : goal.returns-in_default-clause-refused
returns-in_default-clause-refused g c =
    steps_down g.D.Area c.args.self.now c.args.self.now refl (Read c.args.node c.args.thread c.args.segment c.args.offset c.args.len) refl c.in_default.not-Up
