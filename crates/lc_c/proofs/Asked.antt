-- What came of a call of C.
use Rattle.std.proofs.Common.{◌≡◌, ℕ, Bool, true, false, List, length, Option, refl, sym, ap, subst, ◌∙◌}
use Rattle.std.specs.Prelude.{Ok, Err, is_some}
use Rattle.std.specs.Option.{unwrap_or}
use Rattle.lc_model.specs.declared.event.Event.{Event}
use Rattle.lc_model.specs.declared.refusal.Refusal.TheVariants.{Down}
use Rattle.lc_model.specs.declared.reply.Reply.{Reply}
use Rattle.lc_model.specs.declared.reply.Reply.TheVariants.{Refused}
use Rattle.lc_c.specs.Answer.{of_refusal, of_reply}
use Rattle.lc_c.specs.Calls.{AreaIf, Fills, StartsBy, StartsIf, StepsIf, TellsBytes, TellsCall, call_in, read_in}
use Rattle.lc_c.specs.Lent.{with_session}
use Rattle.lc_c.specs.Mirrors.{window_in}
use Rattle.lc_c.specs.SessionState.{AreaAt, StepsStage}
use Rattle.lc_c.specs.declared.answer.Answer.{Answer}
use Rattle.lc_c.specs.declared.handle.Handle.{Handle}
use Rattle.lc_c.specs.declared.last_call.LastCall.{LastCall}
use Rattle.lc_c.specs.declared.mirror_area.MirrorArea.{MirrorArea}
use Rattle.lc_c.specs.declared.session.Session.{Session}

-- a session that was lent, and is as it was
pub lent_same : (mid old : Handle) (session : Session) → mid ≡ old → session ≡ mid.value → with_session mid session ≡ old
lent_same mid old session same is = ap (with_session mid) is ∙ same

module _ (old new : Handle) (same : new ≡ old) where
  module _ (none : old.held ≡ false) where
    pub fills_none : (event : Event) (olds : List ℕ) (answer : Answer) → answer ≡ of_refusal Down → Fills old event olds olds answer new
    fills_none event olds answer is = record {
      reply = Refused Down;
      steps = subst (λ b. StepsIf b old.value event (Ok (Refused Down)) new.value) (sym none) refl;
      filled = refl;
      answers = is;
      held = ap (λ (h : Handle). h.held) same;
    }

    pub starts_none : (answer : Answer) → answer ≡ of_refusal Down → StartsIf old answer new
    starts_none answer is = record {
      result = Err Down;
      starts = subst (λ b. StartsBy b old.value (Err Down) new.value) (sym none) refl;
      answers = is;
      held = ap (λ (h : Handle). h.held) same;
    }

  module _ (session : Session) (some : old.held ≡ true) (is : session ≡ old.value) where
    pub fills : (event : Event) (reply : Reply) (olds news : List ℕ) (answer : Answer) → StepsStage session.stage event (Ok reply) session.stage
        → news ≡ read_in reply olds → answer ≡ of_reply reply → Fills old event olds news answer new
    fills event reply olds news answer steps filled answers = record {
      reply = reply;
      steps = subst (λ b. StepsIf b old.value event (Ok reply) new.value) (sym some) (
        subst (λ (s : Session). StepsStage old.value.stage event (Ok reply) s.stage) (sym (ap (λ (h : Handle). h.value) same))
            (subst (λ (s : Session). StepsStage s.stage event (Ok reply) s.stage) is steps),
        record { truncation = ap (λ (h : Handle). h.value.truncation) same },
      );
      filled = filled;
      answers = answers;
      held = ap (λ (h : Handle). h.held) same;
    }

    at_held : (place : ℕ) (area : Option MirrorArea) → AreaAt session.stage place area → AreaIf old.held old.value place area
    at_held place area at = subst (λ b. AreaIf b old.value place area) (sym some) (subst (λ (s : Session). AreaAt s.stage place area) is at)

    pub tells_call : (place : ℕ) (area : Option MirrorArea) (found : Bool) (before call : LastCall) → AreaAt session.stage place area
        → found ≡ is_some area → call ≡ call_in area before → TellsCall old place found before call new
    tells_call place area found before call at found_is told =
        record { area = area; at = at_held place area at; found_is = found_is; told = told; same = same }

    pub tells_bytes : (place at : ℕ) (area : Option MirrorArea) (found : Bool) (olds news : List ℕ) → AreaAt session.stage place area
        → found ≡ is_some (window_in area at (length olds)) → news ≡ unwrap_or (window_in area at (length olds)) olds → TellsBytes old place at found olds news new
    tells_bytes place at area found olds news area_at found_is told =
        record { area = area; area_at = at_held place area area_at; found_is = found_is; told = told; same = same }
