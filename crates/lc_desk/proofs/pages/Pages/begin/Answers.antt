use Rattle.std.proofs.Common.{◌≡◌, ℕ, ◌+◌, Bool, Some, sym, ap, subst, ◌∙◌, arith}
use Rattle.std.specs.List.{count_by}
use Rattle.std.specs.Prelude.{is_ok, slice_get, slice_set}
use Rattle.lc_log.specs.OneCall.{IsOneCall}
use Rattle.lc_page.specs.declared.draft.Draft.{Draft}
use Rattle.lc_page.specs.Writing.{draft_of}
use Rattle.lc_page.specs.declared.writing.Writing.{Writing}
use Rattle.lc_desk.specs.PageState.{is_begun}
use Rattle.lc_desk.specs.declared.page_state.PageState.TheVariants.{AtRest, Failed, UnderWay}
use Rattle.lc_desk.proofs.BegunCounts.{count_set}
use Rattle.lc_recover.proofs.PageCalls.{writes_call}
use Rattle.lc_desk.proofs.PageCalls.{IsCall, begin_fails, begins, named_set, same_write}
use Rattle.lc_desk.proofs.pages.Pages.begin.Goals as goal

pub invariant_of-self : goal.invariant_of-self
invariant_of-self g c =
    let ws = c.args.self.now.writes.items in
    let page : ℕ = c.draft.result.now.page in
    let rests : slice_get ws c.draft.result.now.page ≡ Some AtRest = ap (λ (d : Draft). slice_get ws d.page) c.draft.ensures ∙ c.requires.rests in
    let one : count_by is_begun (slice_set ws c.draft.result.now.page (UnderWay c.in-Ok.write)) + 0 ≡ count_by is_begun ws + 1 = count_set is_begun ws page AtRest (UnderWay c.in-Ok.write) rests in
    record {
      long = omega (arith, c.args.self.now.long, c.begin-begun.ensures.device.same_length);
      named = named_set ws page (UnderWay c.in-Ok.write) c.args.self.now.named
          (λ w is. ap (λ (v : Writing). (draft_of v).page) (sym (same_write c.in-Ok.write w is)) ∙ ap (λ (d : Draft). d.page) (c.in-Ok.ensures.draft ∙ sym c.draft.ensures));
      counted = omega (arith, c.args.self.now.counted, one);
    }

pub invariant_of-self-in-Err : goal.invariant_of-self-in-Err
invariant_of-self-in-Err g c =
    let ws = c.args.self.now.writes.items in
    let page : ℕ = c.draft.result.now.page in
    let rests : slice_get ws c.draft.result.now.page ≡ Some AtRest = ap (λ (d : Draft). slice_get ws d.page) c.draft.ensures ∙ c.requires.rests in
    let one : count_by is_begun (slice_set ws c.draft.result.now.page Failed) + 0 ≡ count_by is_begun ws + 1 = count_set is_begun ws page AtRest Failed rests in
    record {
      long = omega (arith, c.args.self.now.long, c.begin-begun.ensures.device.same_length);
      named = named_set ws page Failed c.args.self.now.named (λ w is. absurd (let no : Failed ≡ UnderWay w = is in cc));
      counted = omega (arith, c.args.self.now.counted, one);
    }

pub returns-in-Ok-clause-follows : goal.returns-in-Ok-clause-follows
returns-in-Ok-clause-follows g c =
    let call : IsCall g.D.Area c.args.write.draft.page c.args.self.now.area c.begin-begun.new.area =
    record { honest = c.begin-begun.ensures.device.honest; bytes = g.met.D.Area.reads_bytes c.begin-begun.new.area; others = c.begin-begun.ensures.others } in
    begins g.D.Area c.args.self.now _ c.args.write.draft c.args.write.state.gate call c.in-Ok.write c.in-Ok.ensures.draft c.in-Ok.ensures.calls
    (ap (λ (d : Draft). slice_set c.args.self.now.writes.items d.page (UnderWay c.in-Ok.write)) c.draft.ensures) c.in-Ok.ensures.under_way

pub returns-in-Err-clause-follows : goal.returns-in-Err-clause-follows
returns-in-Err-clause-follows g c =
    let call : IsCall g.D.Area c.args.write.draft.page c.args.self.now.area c.begin-begun.new.area =
    record { honest = c.begin-begun.ensures.device.honest; bytes = g.met.D.Area.reads_bytes c.begin-begun.new.area; others = c.begin-begun.ensures.others } in
    begin_fails g.D.Area c.args.self.now _ c.args.write.draft c.args.write.state.gate call
    (ap (λ (d : Draft). slice_set c.args.self.now.writes.items d.page Failed) c.draft.ensures) c.begin-begun.ensures.page

pub returns-in-Ok-clause-device : goal.returns-in-Ok-clause-device
returns-in-Ok-clause-device g c = subst (λ (ok : Bool). IsOneCall g.D.Area ok c.args.self.now.area c.begin-begun.new.area) (ap is_ok c.in-Ok.is)
    (writes_call g.D.Area _ _ _ c.args.self.now.area c.begin-begun.new.area (is_ok c.begin-begun.result) c.begin-begun.ensures.call)

pub returns-in-Err-clause-device : goal.returns-in-Err-clause-device
returns-in-Err-clause-device g c = subst (λ (ok : Bool). IsOneCall g.D.Area ok c.args.self.now.area c.begin-begun.new.area) (ap is_ok c.in-Err.is)
    (writes_call g.D.Area _ _ _ c.args.self.now.area c.begin-begun.new.area (is_ok c.begin-begun.result) c.begin-begun.ensures.call)
