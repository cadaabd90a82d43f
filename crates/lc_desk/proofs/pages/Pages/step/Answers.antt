use Rattle.std.proofs.Common.{◌≡◌, ℕ, ◌+◌, Bool, true, false, cond, sym, ap, subst, ◌∙◌, arith}
use Rattle.std.specs.List.{count_by}
use Rattle.std.specs.Prelude.{is_ok, slice_set, Option, None, Some, Ok}
use Rattle.std.proofs.lemmas.Option.{slice_get_within}
use Rattle.lc_log.specs.OneCall.{IsOneCall}
use Rattle.lc_page.specs.Page.{Page}
use Rattle.lc_page.specs.Writing.{Calls, GoesOn, IsNextOf, IsUnderWay, draft_of}
use Rattle.lc_page.specs.declared.page_text.PageText.{PageText}
use Rattle.lc_page.specs.declared.writing.Writing.{Writing}
use Rattle.lc_desk.specs.PageState.{is_begun}
use Rattle.lc_desk.specs.Pages.{StepsIn}
use Rattle.lc_desk.specs.declared.page_progress.PageProgress.TheVariants.{Stepped, Written}
use Rattle.lc_desk.specs.declared.page_state.PageState.{PageState}
use Rattle.lc_desk.specs.declared.page_state.PageState.TheVariants.{AtRest, UnderWay}
use Rattle.lc_desk.proofs.BegunCounts.{count_set}
use Rattle.lc_recover.proofs.PageCalls.{calls_call}
use Rattle.lc_desk.proofs.PageCalls.{IsCall, goes_on, is_over, named_failed, named_set, one_write, same_write, set_twice, step_fails, taken, tells}
use Rattle.lc_desk.proofs.pages.Pages.step.Goals as goal

pub index_mut-requires-in-None : goal.index_mut-requires-in-None
index_mut-requires-in-None g c =
    omega (arith, slice_get_within c.args.self.now.writes.items c.args.page (UnderWay c.requires.0) c.requires.1, c.args.self.now.writes.ok.0)

pub overflow_sub-self : goal.overflow_sub-self
overflow_sub-self g c =
    let ws = c.args.self.now.writes.items in
    let one : count_by is_begun (slice_set ws c.args.page AtRest) + 1 ≡ count_by is_begun ws + 0 = count_set is_begun ws c.args.page (UnderWay c.requires.0) AtRest c.requires.1 in
    omega (arith, c.args.self.now.counted, one)

pub invariant_of-self : goal.invariant_of-self
invariant_of-self g c =
    let write = c.in-UnderWay.write in
    let next_is : IsNextOf write (Some c.in-Some.next) = subst (IsNextOf write) c.in-Some.is c.in-Ok.ensures.next in
    let at = taken c.args.self.now.writes.items c.args.page c.requires.0 write c.index_mut.result.now c.replace.result c.requires.1 c.index_mut.ensures.value c.replace.ensures.value c.in-UnderWay.is in
    record {
      long = omega (arith, c.args.self.now.long, c.step-next.ensures.device.same_length);
      named = named_set (slice_set c.args.self.now.writes.items c.args.page c.replace.new.dest) c.args.page (UnderWay c.in-Some.next)
          (named_failed c.args.self.now.writes.items c.args.page c.replace.new.dest c.replace.ensures.after c.args.self.now.named)
          (λ w is. ap (λ (v : Writing). (draft_of v).page) (sym (same_write c.in-Some.next w is)) ∙ ap (λ d. d.page) next_is.0 ∙ c.args.self.now.named c.args.page write at);
      counted =
          (let ws = c.args.self.now.writes.items in
          let one : count_by is_begun (slice_set ws c.args.page (UnderWay c.in-Some.next)) + 1 ≡ count_by is_begun ws + 1 = count_set is_begun ws c.args.page (UnderWay c.requires.0) (UnderWay c.in-Some.next) c.requires.1 in
          let same : count_by is_begun (slice_set (slice_set ws c.args.page c.replace.new.dest) c.args.page (UnderWay c.in-Some.next)) ≡ count_by is_begun (slice_set ws c.args.page (UnderWay c.in-Some.next)) =
          ap (count_by is_begun) (set_twice ws c.args.page c.replace.new.dest (UnderWay c.in-Some.next)) in
          omega (arith, c.args.self.now.counted, one, same));
    }

pub invariant_of-self-in-None : goal.invariant_of-self-in-None
invariant_of-self-in-None g c =
    record {
      long = omega (arith, c.args.self.now.long, c.step-next.ensures.device.same_length);
      named = named_set (slice_set c.args.self.now.writes.items c.args.page c.replace.new.dest) c.args.page AtRest
          (named_failed c.args.self.now.writes.items c.args.page c.replace.new.dest c.replace.ensures.after c.args.self.now.named)
          (λ w is. absurd (let no : AtRest ≡ UnderWay w = is in cc));
      counted =
          (let ws = c.args.self.now.writes.items in
          let one : count_by is_begun (slice_set ws c.args.page AtRest) + 1 ≡ count_by is_begun ws + 0 = count_set is_begun ws c.args.page (UnderWay c.requires.0) AtRest c.requires.1 in
          let same : count_by is_begun (slice_set (slice_set ws c.args.page c.replace.new.dest) c.args.page AtRest) ≡ count_by is_begun (slice_set ws c.args.page AtRest) =
          ap (count_by is_begun) (set_twice ws c.args.page c.replace.new.dest AtRest) in
          omega (arith, c.args.self.now.counted, one, same));
    }

pub invariant_of-self-in-Err-1 : goal.invariant_of-self-in-Err-1
invariant_of-self-in-Err-1 g c =
    record {
      long = omega (arith, c.args.self.now.long, c.step-next.ensures.device.same_length);
      named = named_failed c.args.self.now.writes.items c.args.page c.replace.new.dest c.replace.ensures.after c.args.self.now.named;
      counted =
          (let ws = c.args.self.now.writes.items in
          let bit : Bool → ℕ = λ b. cond b 1 0 in
          let one : count_by is_begun (slice_set ws c.args.page c.replace.new.dest) + 1 ≡ count_by is_begun ws + cond (is_begun c.replace.new.dest) 1 0 = count_set is_begun ws c.args.page (UnderWay c.requires.0) c.replace.new.dest c.requires.1 in
          let same : cond (is_begun c.replace.new.dest) 1 0 ≡ 1 = ap (λ (s : PageState). bit (is_begun s)) c.replace.ensures.after in
          omega (arith, c.args.self.now.counted, one, same));
    }

pub returns-in-Some-clause-follows : goal.returns-in-Some-clause-follows
returns-in-Some-clause-follows g c =
    let write = c.in-UnderWay.write in
    let next_is : IsNextOf write (Some c.in-Some.next) = subst (IsNextOf write) c.in-Some.is c.in-Ok.ensures.next in
    let at = taken c.args.self.now.writes.items c.args.page c.requires.0 write c.index_mut.result.now c.replace.result c.requires.1 c.index_mut.ensures.value c.replace.ensures.value c.in-UnderWay.is in
    let named = c.args.self.now.named c.args.page write at in
    let call : IsCall g.D.Area c.args.page c.args.self.now.area c.step-next.new.area = record {
      honest = c.step-next.ensures.device.honest;
      bytes = g.met.D.Area.reads_bytes c.step-next.new.area;
      others = λ other differ. c.step-next.ensures.others other (λ same. differ (same ∙ named));
    } in
    goes_on g.D.Area c.args.self.now _ c.args.page write at call c.in-Some.next c.calls-calls.result next_is.0 (sym c.calls-calls.ensures.calls)
    (c.calls-calls.ensures.calls ∙ next_is.1) (set_twice c.args.self.now.writes.items c.args.page c.replace.new.dest (UnderWay c.in-Some.next)) (subst (λ (next : Option Writing). (text : PageText) (old : Page) → IsUnderWay g.D.Area c.args.self.now.area write text old → GoesOn g.D.Area c.step-next.new.area (draft_of write) text old next) c.in-Some.is c.in-Ok.ensures.goes_on)

pub returns-in-None-clause-follows : goal.returns-in-None-clause-follows
returns-in-None-clause-follows g c =
    let write = c.in-UnderWay.write in
    let at = taken c.args.self.now.writes.items c.args.page c.requires.0 write c.index_mut.result.now c.replace.result c.requires.1 c.index_mut.ensures.value c.replace.ensures.value c.in-UnderWay.is in
    let named = c.args.self.now.named c.args.page write at in
    let call : IsCall g.D.Area c.args.page c.args.self.now.area c.step-next.new.area = record {
      honest = c.step-next.ensures.device.honest;
      bytes = g.met.D.Area.reads_bytes c.step-next.new.area;
      others = λ other differ. c.step-next.ensures.others other (λ same. differ (same ∙ named));
    } in
    is_over g.D.Area c.args.self.now _ c.args.page write at call c.draft.result.now.seq (set_twice c.args.self.now.writes.items c.args.page c.replace.new.dest AtRest) (subst (λ (next : Option Writing). (text : PageText) (old : Page) → IsUnderWay g.D.Area c.args.self.now.area write text old → GoesOn g.D.Area c.step-next.new.area (draft_of write) text old next) c.in-None.is c.in-Ok.ensures.goes_on)

pub returns-in-Err-clause-follows : goal.returns-in-Err-clause-follows
returns-in-Err-clause-follows g c =
    let write = c.in-UnderWay.write in
    let at = taken c.args.self.now.writes.items c.args.page c.requires.0 write c.index_mut.result.now c.replace.result c.requires.1 c.index_mut.ensures.value c.replace.ensures.value c.in-UnderWay.is in
    let named = c.args.self.now.named c.args.page write at in
    let call : IsCall g.D.Area c.args.page c.args.self.now.area c.step-next.new.area = record {
      honest = c.step-next.ensures.device.honest;
      bytes = g.met.D.Area.reads_bytes c.step-next.new.area;
      others = λ other differ. c.step-next.ensures.others other (λ same. differ (same ∙ named));
    } in
    step_fails g.D.Area c.args.self.now _ c.args.page write at call c.in-Err.fault (ap (λ state. slice_set c.args.self.now.writes.items c.args.page state) c.replace.ensures.after)
    c.step-next.ensures.page c.step-next.ensures.old_page

pub returns-in-Some-clause-tells : goal.returns-in-Some-clause-tells
returns-in-Some-clause-tells g c =
    let write = c.in-UnderWay.write in
    let next_is : IsNextOf write (Some c.in-Some.next) = subst (IsNextOf write) c.in-Some.is c.in-Ok.ensures.next in
    let at = taken c.args.self.now.writes.items c.args.page c.requires.0 write c.index_mut.result.now c.replace.result c.requires.1 c.index_mut.ensures.value c.replace.ensures.value c.in-UnderWay.is in
    let steps : StepsIn c.args.self.now.writes.items c.args.page write (Ok (Stepped c.calls-calls.result)) (slice_set (slice_set c.args.self.now.writes.items c.args.page c.replace.new.dest) c.args.page (UnderWay c.in-Some.next)) = (
      c.in-Some.next,
      next_is.0,
      sym c.calls-calls.ensures.calls,
      c.calls-calls.ensures.calls ∙ next_is.1,
      set_twice c.args.self.now.writes.items c.args.page c.replace.new.dest (UnderWay c.in-Some.next),
    ) in
    tells g.D.Area c.args.self.now c.args.page write _ at (Ok (Stepped c.calls-calls.result)) steps

pub returns-in-None-clause-tells : goal.returns-in-None-clause-tells
returns-in-None-clause-tells g c =
    let write = c.in-UnderWay.write in
    let next_is : IsNextOf write None = subst (IsNextOf write) c.in-None.is c.in-Ok.ensures.next in
    let at = taken c.args.self.now.writes.items c.args.page c.requires.0 write c.index_mut.result.now c.replace.result c.requires.1 c.index_mut.ensures.value c.replace.ensures.value c.in-UnderWay.is in
    let steps : StepsIn c.args.self.now.writes.items c.args.page write (Ok (Written c.draft.result.now.seq)) (slice_set (slice_set c.args.self.now.writes.items c.args.page c.replace.new.dest) c.args.page AtRest) =
    (next_is, ap (λ d. d.seq) c.draft.ensures, set_twice c.args.self.now.writes.items c.args.page c.replace.new.dest AtRest) in
    tells g.D.Area c.args.self.now c.args.page write _ at (Ok (Written c.draft.result.now.seq)) steps

pub returns-in-Some-clause-states : goal.returns-in-Some-clause-states
returns-in-Some-clause-states g c =
    let write = c.in-UnderWay.write in
    let next_is : IsNextOf write (Some c.in-Some.next) = subst (IsNextOf write) c.in-Some.is c.in-Ok.ensures.next in
    let at = taken c.args.self.now.writes.items c.args.page c.requires.0 write c.index_mut.result.now c.replace.result c.requires.1 c.index_mut.ensures.value c.replace.ensures.value c.in-UnderWay.is in
    let steps : StepsIn c.args.self.now.writes.items c.args.page write (Ok (Stepped c.calls-calls.result)) (slice_set (slice_set c.args.self.now.writes.items c.args.page c.replace.new.dest) c.args.page (UnderWay c.in-Some.next)) = (
      c.in-Some.next,
      next_is.0,
      sym c.calls-calls.ensures.calls,
      c.calls-calls.ensures.calls ∙ next_is.1,
      set_twice c.args.self.now.writes.items c.args.page c.replace.new.dest (UnderWay c.in-Some.next),
    ) in
    λ its got. subst (λ (w : Writing). StepsIn c.args.self.now.writes.items c.args.page w (Ok (Stepped c.calls-calls.result)) (slice_set (slice_set c.args.self.now.writes.items c.args.page c.replace.new.dest) c.args.page (UnderWay c.in-Some.next)))
    (one_write c.args.self.now.writes.items c.args.page write its at got) steps

pub returns-in-None-clause-states : goal.returns-in-None-clause-states
returns-in-None-clause-states g c =
    let write = c.in-UnderWay.write in
    let next_is : IsNextOf write None = subst (IsNextOf write) c.in-None.is c.in-Ok.ensures.next in
    let at = taken c.args.self.now.writes.items c.args.page c.requires.0 write c.index_mut.result.now c.replace.result c.requires.1 c.index_mut.ensures.value c.replace.ensures.value c.in-UnderWay.is in
    let steps : StepsIn c.args.self.now.writes.items c.args.page write (Ok (Written c.draft.result.now.seq)) (slice_set (slice_set c.args.self.now.writes.items c.args.page c.replace.new.dest) c.args.page AtRest) =
    (next_is, ap (λ d. d.seq) c.draft.ensures, set_twice c.args.self.now.writes.items c.args.page c.replace.new.dest AtRest) in
    λ its got. subst (λ (w : Writing). StepsIn c.args.self.now.writes.items c.args.page w (Ok (Written c.draft.result.now.seq)) (slice_set (slice_set c.args.self.now.writes.items c.args.page c.replace.new.dest) c.args.page AtRest))
    (one_write c.args.self.now.writes.items c.args.page write its at got) steps

pub returns-in-Some-clause-call : goal.returns-in-Some-clause-call
returns-in-Some-clause-call g c =
    let write = c.in-UnderWay.write in
    let at = taken c.args.self.now.writes.items c.args.page c.requires.0 write c.index_mut.result.now c.replace.result c.requires.1 c.index_mut.ensures.value c.replace.ensures.value c.in-UnderWay.is in
    λ its got. subst (λ (w : Writing). Calls g.D.Area w c.args.self.now.area c.step-next.new.area true) (one_write c.args.self.now.writes.items c.args.page write its at got) c.in-Ok.ensures.call

pub returns-in-None-clause-call : goal.returns-in-None-clause-call
returns-in-None-clause-call g c =
    let write = c.in-UnderWay.write in
    let at = taken c.args.self.now.writes.items c.args.page c.requires.0 write c.index_mut.result.now c.replace.result c.requires.1 c.index_mut.ensures.value c.replace.ensures.value c.in-UnderWay.is in
    λ its got. subst (λ (w : Writing). Calls g.D.Area w c.args.self.now.area c.step-next.new.area true) (one_write c.args.self.now.writes.items c.args.page write its at got) c.in-Ok.ensures.call

pub returns-in-Err-clause-call : goal.returns-in-Err-clause-call
returns-in-Err-clause-call g c =
    let write = c.in-UnderWay.write in
    let at = taken c.args.self.now.writes.items c.args.page c.requires.0 write c.index_mut.result.now c.replace.result c.requires.1 c.index_mut.ensures.value c.replace.ensures.value c.in-UnderWay.is in
    λ its got. subst (λ (w : Writing). Calls g.D.Area w c.args.self.now.area c.step-next.new.area false) (one_write c.args.self.now.writes.items c.args.page write its at got) c.in-Err.ensures.call

pub returns-in-Some-clause-device : goal.returns-in-Some-clause-device
returns-in-Some-clause-device g c = subst (λ (ok : Bool). IsOneCall g.D.Area ok c.args.self.now.area c.step-next.new.area) (ap is_ok c.in-Ok.is)
    (calls_call g.D.Area c.in-UnderWay.write c.args.self.now.area c.step-next.new.area (is_ok c.step-next.result) c.step-next.ensures.call)

pub returns-in-None-clause-device : goal.returns-in-None-clause-device
returns-in-None-clause-device g c = subst (λ (ok : Bool). IsOneCall g.D.Area ok c.args.self.now.area c.step-next.new.area) (ap is_ok c.in-Ok.is)
    (calls_call g.D.Area c.in-UnderWay.write c.args.self.now.area c.step-next.new.area (is_ok c.step-next.result) c.step-next.ensures.call)

pub returns-in-Err-clause-device : goal.returns-in-Err-clause-device
returns-in-Err-clause-device g c = subst (λ (ok : Bool). IsOneCall g.D.Area ok c.args.self.now.area c.step-next.new.area) (ap is_ok c.in-Err.is)
    (calls_call g.D.Area c.in-UnderWay.write c.args.self.now.area c.step-next.new.area (is_ok c.step-next.result) c.step-next.ensures.call)
