use Rattle.std.proofs.Common.{false, refl, subst}
use Rattle.std.specs.Prelude.{Option}
use Rattle.std.proofs.lemmas.Result.{IfOk-weaker}
use Rattle.lc_record.proofs.ListLemmas.{OnErr_from as on_err}
use Rattle.lc_model.specs.Machine.{may_deliver}
use Rattle.lc_model.specs.declared.event.Event.TheVariants.{Deliver}
use Rattle.lc_model.specs.declared.refusal.Refusal.{Refusal}
use Rattle.lc_events.specs.Refuses.{Refuses}
use Rattle.lc_journal.proofs.Logged.{err_then}
use Rattle.lc_journal.proofs.OwnReplies.{own_no_fault}
use Rattle.lc_events.proofs.Faults.{quiet}
use Rattle.lc_events.proofs.Geometries.{refuses_delivery}
use Rattle.lc_events.proofs.Layering.{refused_tries}
use Rattle.lc_events.proofs.Names.{answers_may}
use Rattle.lc_events.proofs.Ordinary.{follows_step}
use Rattle.lc_events.proofs.Refusing.{if_ok_both}
use Rattle.lc_events.proofs.running.Running.deliver.Goals as goal

pub returns-in-Some : goal.returns-in-Some
returns-in-Some g c = refused_tries g.D.Area c.args.self.now (Deliver c.args.sender c.args.number c.args.segment c.args.to) c.refusal.result (c.refusal.ensures (Deliver c.args.sender c.args.number c.args.segment c.args.to) (c.knows_delivery-known.ensures c.args.number) refl) c.in-Some.refusal c.in-Some.is refl

pub bring-requires : goal.bring-requires
bring-requires g c = record { known = (c.refusal.ensures (Deliver c.args.sender c.args.number c.args.segment c.args.to) (c.knows_delivery-known.ensures c.args.number) refl).known c.in_default.is }

pub returns : goal.returns
returns g c =
    let w = c.args.self.now in
    let event = Deliver c.args.sender c.args.number c.args.segment c.args.to in
    let first = c.refusal.ensures (Deliver c.args.sender c.args.number c.args.segment c.args.to) (c.knows_delivery-known.ensures c.args.number) refl in
    record {
      steps = IfOk-weaker c.bring.result _ _ (λ reply both. record {
        follows = follows_step g.D.Area w event c.refusal.result first.refused false event reply c.bring.new.self c.in_default.is refl both.0;
        counts = quiet g.D.Area w event reply c.bring.new.self refl (own_no_fault may_deliver refl reply both.1) c.bring.ensures.logs;
        unknown = refuses_delivery w.geometry event reply (first.known c.in_default.is) refl;
        names = answers_may event reply both.1;
      }) (if_ok_both c.bring.result _ _ c.bring.ensures.follows c.bring.ensures.names);
      memory = err_then c.bring.result c.bring.ensures.memory (λ wants. (subst (λ (r : Option Refusal). Refuses g.D.Area w event r) c.in_default.is first.refused, wants));
      err = c.bring.ensures.err;
      no_fault = on_err c.bring.result _ c.bring.ensures.logs;
    }
