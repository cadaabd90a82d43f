use Rattle.std.proofs.Common.{refl, sym, ◌∙◌, arith}
use Rattle.lc_model.specs.declared.refusal.Refusal.TheVariants.{NotNewer, Uncommitted, Unflushed}
use Rattle.lc_model.specs.declared.reply.Reply.TheVariants.{Refused}
use Rattle.lc_events.proofs.OnPages.{uncommitted_is}
use Rattle.lc_events.proofs.PageAnswers.{first_old, first_uncommitted, first_unflushed, settled_here}
use Rattle.lc_events.proofs.Paged.{begin_halts, is_old, may_draft, no_calls, page_begins, page_stays, place_is, stood}
use Rattle.lc_journal.proofs.ResetRows.{flushed, unflushed}
use Rattle.lc_events.proofs.node_state.NodeState.begin_page.Goals as goal

pub returns-then-is_uncommitted-clause-follows : goal.returns-then-is_uncommitted-clause-follows
returns-then-is_uncommitted-clause-follows g c = λ m n s x sound common h area halts.
    let w = c.args.self.now in
    let olds = c.args.pages.now in
    let segment = c.args.segment in
    let page = c.args.page in
    let its = stood w.desk.here segment c.requires.first c.requires.slot c.requires.here in
    let here = place_is g.D.Area m n segment page s x sound common w h olds area its.slot its.at its.token its.stands in
    let none = no_calls g.D.Area m n segment page s x sound common w h olds area its.slot its.at its.token its.stands c.requires.rests in
    let held = sym (uncommitted_is m n w.desk.here w.desk.seats.items s sound h.desk segment page c.is_uncommitted.result c.is_uncommitted.ensures here) ∙ c.if-is_uncommitted.true in
    page_stays g.D.Area m n segment page s x sound common w h olds area (Refused Uncommitted) refl
    (settled_here m s x n segment page here 0 none (Refused Uncommitted) (first_uncommitted m s x n segment page held)) refl halts

pub returns-then-count-self-clause-follows : goal.returns-then-count-self-clause-follows
returns-then-count-self-clause-follows g c = λ m n s x sound common h area halts.
    let w = c.args.self.now in
    let olds = c.args.pages.now in
    let segment = c.args.segment in
    let page = c.args.page in
    let its = stood w.desk.here segment c.requires.first c.requires.slot c.requires.here in
    let here = place_is g.D.Area m n segment page s x sound common w h olds area its.slot its.at its.token its.stands in
    let none = no_calls g.D.Area m n segment page s x sound common w h olds area its.slot its.at its.token its.stands c.requires.rests in
    let free = sym (uncommitted_is m n w.desk.here w.desk.seats.items s sound h.desk segment page c.is_uncommitted.result c.is_uncommitted.ensures here) ∙ c.if-is_uncommitted.false in
    page_stays g.D.Area m n segment page s x sound common w h olds area (Refused Unflushed) refl
    (settled_here m s x n segment page here 0 none (Refused Unflushed)
    (first_unflushed m s x n segment page free (unflushed g.D.Area m n s x w.journal h.journal (omega (arith, c.if-count-self.true, c.count.ensures))))) refl halts

pub returns-in_default-clause-follows : goal.returns-in_default-clause-follows
returns-in_default-clause-follows g c = λ m n s x sound common h area halts.
    let w = c.args.self.now in
    let olds = c.args.pages.now in
    let segment = c.args.segment in
    let page = c.args.page in
    let its = stood w.desk.here segment c.requires.first c.requires.slot c.requires.here in
    let here = place_is g.D.Area m n segment page s x sound common w h olds area its.slot its.at its.token its.stands in
    let none = no_calls g.D.Area m n segment page s x sound common w h olds area its.slot its.at its.token its.stands c.requires.rests in
    let free = sym (uncommitted_is m n w.desk.here w.desk.seats.items s sound h.desk segment page c.is_uncommitted.result c.is_uncommitted.ensures here) ∙ c.if-is_uncommitted.false in
    let may = may_draft g.D.Area m n segment page s x sound common w h olds area its.slot its.at its.token its.stands in
    let old = is_old g.D.Area m n segment page s x sound common w h olds area its.slot its.at its.token its.stands (c.in_default.ensures.drafts its.slot its.token its.at its.stands may) in
    page_stays g.D.Area m n segment page s x sound common w h olds area (Refused NotNewer) refl
    (settled_here m s x n segment page here 0 none (Refused NotNewer)
    (first_old m s x n segment page free (flushed g.D.Area m n s x w.journal h.journal (omega (arith, c.if-count-self.false, c.count.ensures))) old)) refl halts

pub returns-in-Ok-clause-follows : goal.returns-in-Ok-clause-follows
returns-in-Ok-clause-follows g c = λ m n s x sound common h area halts.
    let w = c.args.self.now in
    let olds = c.args.pages.now in
    let segment = c.args.segment in
    let page = c.args.page in
    let write = c.in-Some.write in
    let its = stood w.desk.here segment c.requires.first c.requires.slot c.requires.here in
    let here = place_is g.D.Area m n segment page s x sound common w h olds area its.slot its.at its.token its.stands in
    let free = sym (uncommitted_is m n w.desk.here w.desk.seats.items s sound h.desk segment page c.is_uncommitted.result c.is_uncommitted.ensures here) ∙ c.if-is_uncommitted.false in
    let may = may_draft g.D.Area m n segment page s x sound common w h olds area its.slot its.at its.token its.stands in
    let is = c.in-Some.ensures.drafts its.slot its.token its.at its.stands may in
    page_begins g.D.Area m n segment page s x sound common w h olds area its.slot its.at its.token its.stands c.requires.rests write.draft write.state.gate is free
    (flushed g.D.Area m n s x w.journal h.journal (omega (arith, c.if-count-self.false, c.count.ensures))) c.begin.new.self c.begin.ensures.follows c.in-Ok.ensures.states halts

pub returns-in-Err-clause-follows : goal.returns-in-Err-clause-follows
returns-in-Err-clause-follows g c = λ m n s x sound common h area halts.
    let w = c.args.self.now in
    let olds = c.args.pages.now in
    let segment = c.args.segment in
    let page = c.args.page in
    let write = c.in-Some.write in
    let new = c.give_up.new.self in
    let its = stood w.desk.here segment c.requires.first c.requires.slot c.requires.here in
    let here = place_is g.D.Area m n segment page s x sound common w h olds area its.slot its.at its.token its.stands in
    let free = sym (uncommitted_is m n w.desk.here w.desk.seats.items s sound h.desk segment page c.is_uncommitted.result c.is_uncommitted.ensures here) ∙ c.if-is_uncommitted.false in
    let may = may_draft g.D.Area m n segment page s x sound common w h olds area its.slot its.at its.token its.stands in
    let is = c.in-Some.ensures.drafts its.slot its.token its.at its.stands may in
    begin_halts g.D.Area m n segment page s x sound common w h olds area its.slot its.at its.token its.stands c.requires.rests write.draft write.state.gate is free
    (flushed g.D.Area m n s x w.journal h.journal (omega (arith, c.if-count-self.false, c.count.ensures))) c.begin.new.self new c.begin.ensures.follows
    (new.group_room ∙ c.give_up.ensures.words ∙ sym w.journal.group_room) c.give_up.ensures.round (c.give_up.ensures.halts m n s x h.journal)

pub returns-then-is_uncommitted-clause-device : goal.returns-then-is_uncommitted-clause-device
returns-then-is_uncommitted-clause-device g c = refl

pub returns-then-count-self-clause-device : goal.returns-then-count-self-clause-device
returns-then-count-self-clause-device g c = refl

pub returns-in_default-clause-device : goal.returns-in_default-clause-device
returns-in_default-clause-device g c = refl
