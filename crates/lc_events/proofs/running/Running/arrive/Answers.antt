use Rattle.std.proofs.Common.{refl}
use Rattle.lc_model.specs.declared.event.Event.TheVariants.{Arrive}
use Rattle.lc_desk.specs.MayReply.{done_or}
use Rattle.lc_events.specs.MayReply.{may_refuse_arrive}
use Rattle.lc_journal.proofs.OwnReplies.{own_known, own_no_fault}
use Rattle.lc_events.proofs.Layering.{moved_running, refused_running}
use Rattle.lc_events.proofs.running.Running.arrive.Goals as goal

pub returns-in-Some : goal.returns-in-Some
returns-in-Some g c = refused_running g.D.Area c.args.self.now (Arrive c.args.node c.args.segment) c.refusal.result (c.refusal.ensures (Arrive c.args.node c.args.segment) c.knows_token.ensures refl) c.in-Some.refusal c.in-Some.is refl

pub take_in-requires : goal.take_in-requires
take_in-requires g c = record { known = (c.refusal.ensures (Arrive c.args.node c.args.segment) c.knows_token.ensures refl).known c.in_default.is }

pub returns : goal.returns
returns g c = moved_running g.D.Area c.args.self.now (Arrive c.args.node c.args.segment) c.refusal.result (c.refusal.ensures (Arrive c.args.node c.args.segment) c.knows_token.ensures refl) c.in_default.is c.take_in.result c.take_in.new.self c.take_in.ensures.follows c.take_in.ensures.logs refl
    (own_no_fault (done_or may_refuse_arrive) refl c.take_in.result c.take_in.ensures.names) (own_known (done_or may_refuse_arrive) refl c.take_in.result c.take_in.ensures.names) c.take_in.ensures.names
