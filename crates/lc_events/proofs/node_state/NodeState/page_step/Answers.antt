use Rattle.std.proofs.Common.{◌≡◌, ◌||◌, Bool, Option, None, Some, refl, sym, ap, subst, ◌∙◌, true≢false}
use Rattle.std.specs.Prelude.{IsSome}
use Rattle.std.proofs.lemmas.Option.{slice_get_read, same_Some as same_some}
use Rattle.lc_token.specs.declared.token.Token.{Token}
use Rattle.lc_model.specs.declared.refusal.Refusal.TheVariants.{NotHere}
use Rattle.lc_model.specs.declared.reply.Reply.TheVariants.{Refused}
use Rattle.lc_record.proofs.ListLemmas.{some_from_is_some as some_token}
use Rattle.lc_desk.specs.declared.page_state.PageState.{PageState}
use Rattle.lc_desk.specs.declared.segment_copy.SegmentCopy.{SegmentCopy}
use Rattle.lc_desk.proofs.Away.{slot_at}
use Rattle.lc_events.proofs.PageAnswers.{settled_away}
use Rattle.lc_events.proofs.Paged.{is_away, none_failed, page_stays}
use Rattle.lc_events.specs.MayReply.{refuses_common}
use Rattle.lc_events.proofs.node_state.NodeState.page_step.Goals as goal

pub returns-then-is_empty-clause-follows : goal.returns-then-is_empty-clause-follows
returns-then-is_empty-clause-follows g c = λ m n s x sound common h area halts.
    let w = c.args.self.now in
    let olds = c.args.pages.now in
    let slot = c.index-slot.result.now in
    let at = slot_at w.desk.here c.args.segment slot c.requires.first c.requires.slot c.index-slot.ensures in
    page_stays g.D.Area m n c.args.segment c.args.page s x sound common w h olds area (Refused (NotHere c.args.segment)) refl
    (settled_away m s x n c.args.segment c.args.page (is_away g.D.Area m n c.args.segment c.args.page s x sound common w h olds area slot at (c.is_empty.ensures.0 c.if-is_empty.true))) refl halts

-- a token that is there
some_there : (o : Option Token) → (o ≡ None → ⊥) → IsSome o
some_there None there = absurd (there refl)
some_there (Some token) there = refl

pub begin_page-requires-clause-here : goal.begin_page-requires-clause-here
begin_page-requires-clause-here g c = λ other got.
    let w = c.args.self.now in
    let slot = c.index-slot.result.now in
    let at = slot_at w.desk.here c.args.segment slot c.requires.first c.requires.slot c.index-slot.ensures in
    subst (λ (v : SegmentCopy). IsSome v.token.token) (same_some slot other (sym at ∙ got))
    (some_there slot.token.token (λ none. true≢false (sym (c.is_empty.ensures.1 none) ∙ c.if-is_empty.false)))

pub begin_page-requires-clause-rests : goal.begin_page-requires-clause-rests
begin_page-requires-clause-rests g c =
    let writes = c.args.pages.now.writes in
    slice_get_read writes.items writes.len c.args.page c.index.result.now writes.ok.0 c.requires.page c.index.ensures ∙ ap (λ (v : PageState). Some v) c.in-AtRest.is

pub next_page_call-requires-clause-here : goal.next_page_call-requires-clause-here
next_page_call-requires-clause-here g c = λ other got.
    let w = c.args.self.now in
    let slot = c.index-slot.result.now in
    let at = slot_at w.desk.here c.args.segment slot c.requires.first c.requires.slot c.index-slot.ensures in
    subst (λ (v : SegmentCopy). IsSome v.token.token) (same_some slot other (sym at ∙ got))
    (some_there slot.token.token (λ none. true≢false (sym (c.is_empty.ensures.1 none) ∙ c.if-is_empty.false)))

pub next_page_call-requires-clause-begun : goal.next_page_call-requires-clause-begun
next_page_call-requires-clause-begun g c =
    let writes = c.args.pages.now.writes in
    (c.in-UnderWay.field-0, slice_get_read writes.items writes.len c.args.page c.index.result.now writes.ok.0 c.requires.page c.index.ensures ∙ ap (λ (v : PageState). Some v) c.in-UnderWay.is)

pub returns-in-Failed-clause-follows : goal.returns-in-Failed-clause-follows
returns-in-Failed-clause-follows g c = λ m n s x sound common h area halts.
    let w = c.args.self.now in
    let olds = c.args.pages.now in
    let writes = olds.writes in
    let slot = c.index-slot.result.now in
    let at = slot_at w.desk.here c.args.segment slot c.requires.first c.requires.slot c.index-slot.ensures in
    let token = some_token slot.token.token (some_there slot.token.token (λ none. true≢false (sym (c.is_empty.ensures.1 none) ∙ c.if-is_empty.false))) in
    absurd (none_failed g.D.Area m n c.args.segment c.args.page s x sound common w h olds area slot at token.0 token.1 halts
    (slice_get_read writes.items writes.len c.args.page c.index.result.now writes.ok.0 c.requires.page c.index.ensures ∙ ap (λ (v : PageState). Some v) c.in-Failed.is))

pub returns-then-is_empty-clause-device : goal.returns-then-is_empty-clause-device
returns-then-is_empty-clause-device g c = refl

pub returns-in-Failed-clause-device : goal.returns-in-Failed-clause-device
returns-in-Failed-clause-device g c = refl

pub returns-in-AtRest-clause-names : goal.returns-in-AtRest-clause-names
returns-in-AtRest-clause-names g c = ap (λ (b : Bool). b || refuses_common c.begin_page.result) c.begin_page.ensures.names

pub returns-in-UnderWay-clause-names : goal.returns-in-UnderWay-clause-names
returns-in-UnderWay-clause-names g c = ap (λ (b : Bool). b || refuses_common c.next_page_call.result) c.next_page_call.ensures.names
