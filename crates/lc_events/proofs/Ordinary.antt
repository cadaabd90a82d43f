-- What a running store does is a step of the machine.
use Rattle.std.proofs.Common.{◌≡◌, ℕ, Bool, true, Option, Some, None, refl, sym, ap, subst, ◌∙◌}
use Rattle.std.specs.Prelude.{is_some, if◌then◌else◌}
use Rattle.lc_disk.specs.declared.area.Area.{Ghosts}
use Rattle.lc_model.specs.Machine.{Row}
use Rattle.lc_model.specs.Refusals.{Unless, common_refusal}
use Rattle.lc_model.specs.State.{Setting, State}
use Rattle.lc_model.specs.declared.event.Event.{Event}
use Rattle.lc_model.specs.declared.event.Event.TheVariants.{Begin, SetRange, Write, Read, Abort, Reserve, Close, FlushStep, Leave, Arrive, Deliver, Trim, PageStep, ResetStep, Stop, RecoverStep}
use Rattle.lc_model.specs.declared.refusal.Refusal.{Refusal}
use Rattle.lc_model.specs.declared.reply.Reply.{Reply}
use Rattle.lc_model.specs.declared.reply.Reply.TheVariants.{Refused}
use Rattle.lc_settled.specs.Numbers.{Numbers}
use Rattle.lc_events.specs.Refuses.{Refuses}
use Rattle.lc_model.proofs.Rows.{known}
use Rattle.lc_events.specs.Running.{FitsRunning, FollowsLeaving, FollowsRow, Onward}
use Rattle.lc_settled.specs.Settled.{open_answer}
use Rattle.lc_events.specs.Stepping.{FollowsStep, StepsOn, TellsWriting, is_plain}
use Rattle.lc_settled.specs.Turns.{Turns}
use Rattle.lc_events.specs.declared.running.Running.{Running}
use Rattle.lc_events.proofs.Travels.{segment_known}

-- a refusal leaves the numbers as they are
pub turns_refused : (m : Setting) (s : State) (x : Numbers) (event : Event) (refusal : Refusal) → is_plain event ≡ true → Turns m s x event (Refused refusal) x
turns_refused m s x (Begin node thread segments reading) refusal plain = refl
turns_refused m s x (SetRange node thread segment offset len) refusal plain = refl
turns_refused m s x (Write node thread segment offset bytes) refusal plain = refl
turns_refused m s x (Read node thread segment offset len) refusal plain = refl
turns_refused m s x (Abort node thread) refusal plain = refl
turns_refused m s x (Reserve node thread) refusal plain = refl
turns_refused m s x (Close node thread) refusal plain = refl
turns_refused m s x (FlushStep node) refusal plain = refl
turns_refused m s x (Leave node segment) refusal plain = refl
turns_refused m s x (Arrive node segment) refusal plain = refl
turns_refused m s x (Deliver sender number segment to) refusal plain = refl
turns_refused m s x (Trim node) refusal plain = refl
turns_refused m s x (PageStep node segment page) refusal plain = absurd cc
turns_refused m s x (ResetStep node) refusal plain = refl
turns_refused m s x (Stop choices) refusal plain = absurd cc
turns_refused m s x RecoverStep refusal plain = absurd cc

module _ {D : Type 0} (a : Ghosts D) (old : Running D a) (event : Event) (o : Option Refusal) (refuses : Refuses a old event o) (writing : Bool) where
  -- where nothing refuses it at once
  goes_on : (e : Event) (reply : Reply) (new : Running D a) (m : Setting) (s : State) (x : Numbers) → o ≡ None → event ≡ e → FitsRunning a m old s x
      → (common_refusal m.geometry s e ≡ None → Onward a m e s x reply new.geometry new.nodes.items new.travelling.items)
      → StepsOn a m event s x reply new.geometry new.nodes.items new.travelling.items
  goes_on e reply new m s x none is h follows =
      let common : common_refusal m.geometry s event ≡ None = sym (refuses m s x h) ∙ none in
      let on = subst (λ (v : Event). Onward a m v s x reply new.geometry new.nodes.items new.travelling.items) (sym is) (follows (ap (common_refusal m.geometry s) (sym is) ∙ common)) in
      record {
        after = on.after;
        next = on.next;
        step = subst (λ (c : Option Refusal). Unless c s reply on.after (Row m s event reply on.after)) (sym common) on.row;
        settled = on.settled;
        turns = on.turns;
        fits = on.fits;
      }

  pub follows_step : (e : Event) (reply : Reply) (new : Running D a) → o ≡ None → event ≡ e → FollowsRow a old e reply new → FollowsStep a writing old event reply new
  follows_step e reply new none is follows m s x h told = goes_on e reply new m s x none is h (follows m s x h)

  pub leaving_step : (node segment : ℕ) (reply : Reply) (new : Running D a) → o ≡ None → event ≡ Leave node segment → FollowsLeaving a node segment writing old reply new
      → FollowsStep a writing old event reply new
  leaving_step node segment reply new none is follows m s x h told =
      goes_on (Leave node segment) reply new m s x none is h (λ common.
      let at = segment_known m.geometry node segment (known m.geometry s (Leave node segment) common) in
      follows m s x h common (subst (λ (v : Event). TellsWriting m x v writing) is told at.0 at.1))

  pub refused_step : (refusal : Refusal) → o ≡ Some refusal → is_plain event ≡ true → FollowsStep a writing old event (Refused refusal) old
  refused_step refusal some plain m s x h told =
      let common : common_refusal m.geometry s event ≡ Some refusal = sym (refuses m s x h) ∙ some in
      record {
        after = s;
        next = x;
        step = subst (λ (c : Option Refusal). Unless c s (Refused refusal) s (Row m s event (Refused refusal) s)) (sym common) (refl, refl);
        settled = (
          λ answer is. (let none : None ≡ Some answer = sym (ap (λ (c : Option Refusal). if is_some c then None else open_answer m s x event) common) ∙ is in absurd cc),
          λ recovers steps same. absurd cc,
        );
        turns = turns_refused m s x event refusal plain;
        fits = h;
      }
