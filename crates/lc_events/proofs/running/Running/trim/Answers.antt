use Rattle.std.proofs.Common.{refl}
use Rattle.lc_model.specs.declared.event.Event.TheVariants.{Trim}
use Rattle.lc_model.specs.Machine.{may_trim}
use Rattle.lc_journal.proofs.OwnReplies.{own_known, own_no_fault}
use Rattle.lc_events.proofs.Layering.{moved_running, refused_running}
use Rattle.lc_events.proofs.running.Running.trim.Goals as goal

pub returns-in-Some : goal.returns-in-Some
returns-in-Some g c = refused_running g.D.Area c.args.self.now (Trim c.args.node) c.refusal.result (c.refusal.ensures (Trim c.args.node) c.is_node.ensures.known refl) c.in-Some.refusal c.in-Some.is refl

pub drop_applied-requires : goal.drop_applied-requires
drop_applied-requires g c = record { known = (c.refusal.ensures (Trim c.args.node) c.is_node.ensures.known refl).known c.in_default.is }

pub returns : goal.returns
returns g c = moved_running g.D.Area c.args.self.now (Trim c.args.node) c.refusal.result (c.refusal.ensures (Trim c.args.node) c.is_node.ensures.known refl) c.in_default.is c.drop_applied.result c.drop_applied.new.self c.drop_applied.ensures.follows c.drop_applied.ensures.logs refl
    (own_no_fault may_trim refl c.drop_applied.result c.drop_applied.ensures.names) (own_known may_trim refl c.drop_applied.result c.drop_applied.ensures.names) c.drop_applied.ensures.names
