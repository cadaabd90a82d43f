use Rattle.std.proofs.Common.{refl}
use Rattle.lc_model.specs.declared.event.Event.TheVariants.{Leave}
use Rattle.lc_desk.specs.MayReply.{done_or, may_refuse_leave}
use Rattle.lc_journal.proofs.OwnReplies.{own_known, own_no_fault}
use Rattle.lc_events.proofs.Faults.{quiet}
use Rattle.lc_events.proofs.Geometries.{refuses_known}
use Rattle.lc_events.proofs.Layering.{refused_running}
use Rattle.lc_events.proofs.Names.{answers_may}
use Rattle.lc_events.proofs.Ordinary.{leaving_step, refused_step}
use Rattle.lc_events.proofs.running.Running.leave.Goals as goal

pub returns-in-Some : goal.returns-in-Some
returns-in-Some g c =
    let first = c.refusal.ensures (Leave c.args.node c.args.segment) c.knows_token.ensures refl in
    let refused = refused_running g.D.Area c.args.self.now (Leave c.args.node c.args.segment) c.refusal.result first c.in-Some.refusal c.in-Some.is refl in
    record {
      follows = refused_step g.D.Area c.args.self.now (Leave c.args.node c.args.segment) c.refusal.result first.refused c.args.writing c.in-Some.refusal c.in-Some.is refl;
      counts = refused.counts;
      unknown = refused.unknown;
      names = refused.names;
    }

pub send_off-requires : goal.send_off-requires
send_off-requires g c = record { known = (c.refusal.ensures (Leave c.args.node c.args.segment) c.knows_token.ensures refl).known c.in_default.is }

pub returns : goal.returns
returns g c =
    let event = Leave c.args.node c.args.segment in
    let first = c.refusal.ensures (Leave c.args.node c.args.segment) c.knows_token.ensures refl in
    record {
      follows = leaving_step g.D.Area c.args.self.now event c.refusal.result first.refused c.args.writing c.args.node c.args.segment c.send_off.result c.send_off.new.self c.in_default.is refl c.send_off.ensures.follows;
      counts = quiet g.D.Area c.args.self.now event c.send_off.result c.send_off.new.self refl (own_no_fault (done_or may_refuse_leave) refl c.send_off.result c.send_off.ensures.names) c.send_off.ensures.logs;
      unknown = refuses_known c.args.self.now.geometry event c.send_off.result (first.known c.in_default.is) (own_known (done_or may_refuse_leave) refl c.send_off.result c.send_off.ensures.names);
      names = answers_may event c.send_off.result c.send_off.ensures.names;
    }
