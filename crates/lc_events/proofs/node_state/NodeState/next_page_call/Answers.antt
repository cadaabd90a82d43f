use Rattle.std.proofs.Common.{◌-◌, ◌&&◌, nat_le, ℕ, Option, Some, sym, ap, subst, ◌∙◌}
use Rattle.std.specs.Prelude.{Ok, slice_get}
use Rattle.lc_model.specs.declared.reply.Reply.TheVariants.{Stepped}
use Rattle.lc_desk.specs.Leaves.{with_token}
use Rattle.lc_events.specs.NodeState.{SeesStanding}
use Rattle.lc_desk.specs.Pages.{FollowsNext, StepsIn, TellsNumbers}
use Rattle.lc_desk.specs.Places.{get_set_same}
use Rattle.lc_desk.specs.declared.here.Here.{Here}
use Rattle.lc_desk.specs.declared.page_progress.PageProgress.{PageProgress}
use Rattle.lc_desk.specs.declared.segment_copy.SegmentCopy.{SegmentCopy}
use Rattle.lc_events.proofs.Paged.{Goes, call_halts, may_draft, page_goes_on, page_is_over, stood}
use Rattle.lc_events.proofs.Names.{few_calls}
use Rattle.lc_events.proofs.node_state.NodeState.next_page_call.Goals as goal

pub returns-in-Ok-Stepped-clause-follows : goal.returns-in-Ok-Stepped-clause-follows
returns-in-Ok-Stepped-clause-follows g c = λ m n s x sound common h area halts.
    let w = c.args.self.now in
    let olds = c.args.pages.now in
    let news = c.step.new.self in
    let its = stood w.desk.here c.args.segment c.requires.first c.requires.slot c.requires.here in
    let write = c.requires.begun.0 in
    let there = c.requires.begun.1 in
    let is = c.in-Ok-Stepped.field-0-is in
    subst (λ (k : ℕ). Goes g.D.Area m n c.args.segment c.args.page s x sound common w h olds area (Stepped k) w news) (sym c.from.ensures)
    (page_goes_on g.D.Area m n c.args.segment c.args.page s x sound common w h olds area its.slot its.at its.token its.stands write there news c.in-Ok-Stepped.calls
    (subst (λ (p : PageProgress). FollowsNext g.D.Area olds c.args.page (Ok p) news) is c.in-Ok-Stepped.ensures.follows)
    (subst (λ (p : PageProgress). TellsNumbers g.D.Area olds c.args.page (Ok p)) is c.in-Ok-Stepped.ensures.tells)
    (subst (λ (p : PageProgress). StepsIn olds.writes.items c.args.page write (Ok p) news.writes.items) is (c.in-Ok-Stepped.ensures.states write there)) halts)

pub returns-in-Ok-Written-clause-follows : goal.returns-in-Ok-Written-clause-follows
returns-in-Ok-Written-clause-follows g c = λ m n s x sound common h area halts.
    let w = c.args.self.now in
    let olds = c.args.pages.now in
    let news = c.step.new.self in
    let its = stood w.desk.here c.args.segment c.requires.first c.requires.slot c.requires.here in
    let write = c.requires.begun.0 in
    let there = c.requires.begun.1 in
    let is = c.in-Ok-Written.field-0-is in
    let may = may_draft g.D.Area m n c.args.segment c.args.page s x sound common w h olds area its.slot its.at its.token its.stands in
    let noted = c.note_written.ensures.notes its.slot its.token its.at its.stands may.within in
    let moved = noted.2 in
    let place = ap (λ (v : Here). slice_get v.slots.items (c.args.segment - 1)) moved.here ∙ get_set_same w.desk.here.slots.items (c.args.segment - 1) its.slot (with_token its.slot (Some noted.0)) its.at in
    let sees = subst (λ (o : Option SegmentCopy). SeesStanding o w.known c.see.new.self.known) place c.see.ensures.sees in
    rw (c.see.ensures.desk, c.see.ensures.journal)
    (page_is_over g.D.Area m n c.args.segment c.args.page s x sound common w h olds area its.slot its.at its.token its.stands write there news c.in-Ok-Written.number
    (subst (λ (p : PageProgress). FollowsNext g.D.Area olds c.args.page (Ok p) news) is c.in-Ok-Written.ensures.follows)
    (subst (λ (p : PageProgress). TellsNumbers g.D.Area olds c.args.page (Ok p)) is c.in-Ok-Written.ensures.tells)
    (subst (λ (p : PageProgress). StepsIn olds.writes.items c.args.page write (Ok p) news.writes.items) is (c.in-Ok-Written.ensures.states write there)) halts
    c.note_written.new.self c.see.new.self.known noted.0 noted.1 moved sees)

pub returns-in-Err-clause-follows : goal.returns-in-Err-clause-follows
returns-in-Err-clause-follows g c = λ m n s x sound common h area halts.
    let w = c.args.self.now in
    let olds = c.args.pages.now in
    let news = c.step.new.self in
    let new = c.give_up.new.self in
    let its = stood w.desk.here c.args.segment c.requires.first c.requires.slot c.requires.here in
    call_halts g.D.Area m n c.args.segment c.args.page s x sound common w h olds area its.slot its.at its.token its.stands c.requires.begun.0 c.requires.begun.1 news new c.in-Err.field-0 c.in-Err.ensures.follows
    (new.group_room ∙ c.give_up.ensures.words ∙ sym w.journal.group_room) c.give_up.ensures.round (c.give_up.ensures.halts m n s x h.journal)

pub returns-in-Ok-Stepped-clause-names : goal.returns-in-Ok-Stepped-clause-names
returns-in-Ok-Stepped-clause-names g c =
    let write = c.requires.begun.0 in
    let steps = subst (λ (p : PageProgress). StepsIn c.args.pages.now.writes.items c.args.page write (Ok p) c.step.new.self.writes.items) c.in-Ok-Stepped.field-0-is (c.in-Ok-Stepped.ensures.states write c.requires.begun.1) in
    ap (λ (k : ℕ). nat_le 1 k && nat_le k 5) (c.from.ensures ∙ sym steps.2) ∙ few_calls steps.0
