use Rattle.std.proofs.Common.{refl, ap, sym, subst, ◌∙◌}
use Rattle.lc_model.specs.declared.reply.Reply.{Reply}
use Rattle.lc_journal.specs.CallReplies.{tells_but}
use Rattle.lc_journal.specs.FaultReplies.{TellsFault}
use Rattle.lc_journal.proofs.CallsTold.{reset_called}
use Rattle.lc_journal.proofs.Faults.{call_tells, own_tells}
use Rattle.lc_journal.proofs.ResetRows.{call_goes, called_on}
use Rattle.lc_model.specs.Machine.{may_reset}
use Rattle.lc_journal.specs.MayReply.{or_fault}
use Rattle.lc_journal.proofs.Names.{of_reset, or_more}
use Rattle.lc_journal.proofs.journal.Journal.reset_step.Goals as goal

pub returns-then-is_sealed-clause-follows : goal.returns-then-is_sealed-clause-follows
returns-then-is_sealed-clause-follows g c = λ node m s x sound common h round knows.
    let w = c.args.self.now in
    let e = c.reset_call.ensures in
    called_on g.D.Area m node s x w c.reset_call.new.self c.reset_call.result h round e.reply e.records e.dropped e.trimmed e.taken e.acked e.round
    (call_goes g.D.Area m node s x w.records w.dropped w.trimmed w.taken w.acked w.log c.reset_call.new.self.log h (sym c.is_sealed.ensures ∙ c.if-is_sealed.true)
    (sym c.is_emptied.ensures ∙ c.if-is_emptied.false) e.steps e.ends)

pub returns-then-is_emptied-clause-follows : goal.returns-then-is_emptied-clause-follows
returns-then-is_emptied-clause-follows g c = λ node. c.end_reset.ensures.follows node _

pub returns-then-is_emptied-clause-fault : goal.returns-then-is_emptied-clause-fault
returns-then-is_emptied-clause-fault g c = own_tells g.D.Area may_reset refl refl _ c.end_reset.ensures.free c.end_reset.result c.args.self.now.log c.end_reset.new.self.log c.end_reset.ensures.names c.end_reset.ensures.area

pub returns-then-is_sealed-clause-fault : goal.returns-then-is_sealed-clause-fault
returns-then-is_sealed-clause-fault g c =
    subst (λ (reply : Reply). TellsFault g.D.Area (tells_but 1 reply) reply c.args.self.now.log c.reset_call.new.self.log) (sym c.reset_call.ensures.reply)
    (call_tells g.D.Area _ (reset_called g.D.Area c.args.self.now.log c.reset_call.new.self.log c.args.self.now.taken (sym c.is_sealed.ensures ∙ c.if-is_sealed.true) (sym c.is_emptied.ensures ∙ c.if-is_emptied.false) c.reset_call.ensures.ends)
    c.args.self.now.log c.reset_call.new.self.log c.args.self.now.taken c.requires.up c.reset_call.ensures.device)

pub returns-clause-fault : goal.returns-clause-fault
returns-clause-fault g c = own_tells g.D.Area may_reset refl refl _ c.begin_reset.ensures.free c.begin_reset.result c.args.self.now.log c.begin_reset.new.self.log c.begin_reset.ensures.names c.begin_reset.ensures.area

pub returns-then-is_emptied-clause-names : goal.returns-then-is_emptied-clause-names
returns-then-is_emptied-clause-names g c = or_more may_reset c.end_reset.result c.end_reset.ensures.names

pub returns-then-is_sealed-clause-names : goal.returns-then-is_sealed-clause-names
returns-then-is_sealed-clause-names g c =
    ap (or_fault may_reset) c.reset_call.ensures.reply
    ∙ of_reset g.D.Area c.args.self.now.log c.reset_call.new.self.log c.args.self.now.taken (sym c.is_sealed.ensures ∙ c.if-is_sealed.true) (sym c.is_emptied.ensures ∙ c.if-is_emptied.false) c.reset_call.ensures.ends

pub returns-clause-names : goal.returns-clause-names
returns-clause-names g c = or_more may_reset c.begin_reset.result c.begin_reset.ensures.names
