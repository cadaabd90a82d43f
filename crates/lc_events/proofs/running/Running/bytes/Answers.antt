use Rattle.std.proofs.Common.{refl, arith}
use Rattle.std.proofs.lemmas.Result.{IfOk-weaker}
use Rattle.lc_model.specs.declared.event.Event.TheVariants.{Read}
use Rattle.lc_model.specs.declared.reply.Reply.TheVariants.{Bytes, Refused}
use Rattle.lc_events.proofs.AtOnce.{node_within}
use Rattle.lc_events.proofs.Layering.{err_both, read_running, refused_running}
use Rattle.lc_events.proofs.NodeSteps.{of_there}
use Rattle.lc_events.proofs.running.Running.bytes.Goals as goal

pub returns-in-Some-clause-refused : goal.returns-in-Some-clause-refused
returns-in-Some-clause-refused g c = refused_running g.D.Area c.args.self.now (Read c.args.node c.args.thread c.args.segment c.args.offset c.args.len) c.refusal.result (c.refusal.ensures (Read c.args.node c.args.thread c.args.segment c.args.offset c.args.len) c.knows_place-known.ensures refl) c.in-Some.refusal c.in-Some.is refl

pub bytes-requires : goal.bytes-requires
bytes-requires g c =
    let first = c.refusal.ensures (Read c.args.node c.args.thread c.args.segment c.args.offset c.args.len) c.knows_place-known.ensures refl in
    record { seat = (of_there g.D.Area c.args.self.now (Read c.args.node c.args.thread c.args.segment c.args.offset c.args.len) refl (first.known c.in_default.is) (first.running c.in_default.is) c.args.node refl c.index.result.now c.index.ensures).1 }

pub returns-clause-bytes : goal.returns-clause-bytes
returns-clause-bytes g c =
    let first = c.refusal.ensures (Read c.args.node c.args.thread c.args.segment c.args.offset c.args.len) c.knows_place-known.ensures refl in
    IfOk-weaker c.bytes.result _ _
    (λ bytes follows. read_running g.D.Area c.args.self.now c.args.node c.args.thread c.args.segment c.args.offset c.args.len c.refusal.result first c.in_default.is c.index.result.now c.index.ensures (Bytes bytes.now) follows refl)
    c.bytes.ensures.bytes

pub returns-clause-refused : goal.returns-clause-refused
returns-clause-refused g c =
    let first = c.refusal.ensures (Read c.args.node c.args.thread c.args.segment c.args.offset c.args.len) c.knows_place-known.ensures refl in
    err_both c.bytes.result _ _ _
    (λ refusal follows own. read_running g.D.Area c.args.self.now c.args.node c.args.thread c.args.segment c.args.offset c.args.len c.refusal.result first c.in_default.is c.index.result.now c.index.ensures (Refused refusal) follows own)
    c.bytes.ensures.refused c.bytes.ensures.names

pub index-requires : goal.index-requires
index-requires g c =
    let w = c.args.self.now in
    omega (arith, w.all_nodes, w.nodes.ok.0, node_within g.D.Area w (Read c.args.node c.args.thread c.args.segment c.args.offset c.args.len) c.refusal.result (c.refusal.ensures (Read c.args.node c.args.thread c.args.segment c.args.offset c.args.len) c.knows_place-known.ensures refl) c.in_default.is c.args.node refl)
