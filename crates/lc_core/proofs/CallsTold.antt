-- Of the store: which replies tell of a call, event by event.
use Rattle.std.proofs.Common.{◌≡◌, ℕ, ◌+◌, Bool, true, false, length, refl, sym, ap, ◌∙◌}
use Rattle.std.specs.Prelude.{if◌then◌else◌, not}
use Rattle.std.proofs.lemmas.Bool.{eq-eqb, ne_eqb}
use Rattle.lc_disk.specs.declared.area.Area.{Ghosts}
use Rattle.lc_record.specs.declared.geometry.Geometry.{Geometry}
use Rattle.lc_model.specs.declared.event.Event.{Event}
use Rattle.lc_model.specs.declared.event.Event.TheVariants.{FlushStep, PageStep, ResetStep, RecoverStep}
use Rattle.lc_model.specs.declared.refusal.Refusal.{Refusal}
use Rattle.lc_model.specs.declared.reply.Reply.{Reply}
use Rattle.lc_model.specs.declared.reply.Reply.TheVariants.{Stepped, Refused}
use Rattle.lc_events.specs.CallReplies.{CalledAs, CalledIf, calls_log}
use Rattle.lc_core.specs.CallReplies.{IsCalledBy, calls_area}
use Rattle.lc_journal.specs.CallReplies.{tells_but, tells_call}
use Rattle.lc_journal.specs.FaultReplies.{is_device_fault, is_fault}
use Rattle.lc_events.specs.Faults.{IsLogOf}
use Rattle.lc_events.specs.Stepping.{is_plain}

pub refused_free : (g : Geometry) (event : Event) (refusal : Refusal) → is_device_fault refusal ≡ false → calls_area g event (Refused refusal) ≡ false
refused_free g (FlushStep node) refusal plain = plain
refused_free g (ResetStep node) refusal plain = plain
refused_free g (PageStep node segment page) refusal plain = plain
refused_free g RecoverStep refusal plain = plain
refused_free g event refusal plain = refl

-- of what one store does alone, no page is called
pub plain_calls : (g : Geometry) (event : Event) (reply : Reply) → is_plain event ≡ true → calls_log event reply ≡ calls_area g event reply
plain_calls g (PageStep node segment page) reply plain = absurd cc
plain_calls g RecoverStep reply plain = absurd cc
plain_calls g event reply plain = refl

pub log_called_by : (g : Geometry) (event : Event) (at : ℕ) → IsLogOf event at → IsCalledBy g event at
log_called_by g (FlushStep node) at is = is
log_called_by g (ResetStep node) at is = is
log_called_by g event at is = absurd is

-- a step of this number and of another
pub step_free : (free steps : ℕ) → steps ≡ free → tells_but free (Stepped steps) ≡ false
step_free free steps is = ap not (eq-eqb steps free is)

pub step_other : (free steps : ℕ) → (steps ≡ free → ⊥) → tells_but free (Stepped steps) ≡ true
step_other free steps other = ap not (ne_eqb steps free other)

module _ {D : Type 0} (a : Ghosts D) where
  -- an area that was called or not has its length still, and has failed once more just where the reply says so
  pub as_long : (reply : Reply) (old new : D) → CalledAs a reply old new → length (a.now new) ≡ length (a.now old)
  as_long reply old new called = its (tells_call reply) (not (is_fault reply)) called
    where
      its : (calls ok : Bool) → CalledIf a calls ok old new → length (a.now new) ≡ length (a.now old)
      its true ok call = call.same_length
      its false ok same = ap (λ (area : D). length (a.now area)) same

  pub as_failed : (reply : Reply) (old new : D) → CalledAs a reply old new → a.failures new ≡ (if not (is_fault reply) then a.failures old else a.failures old + 1)
  as_failed reply old new called = its (tells_call reply) refl called
    where
      quiet : (reply : Reply) → tells_call reply ≡ false → is_fault reply ≡ false
      quiet (Refused refusal) none = none
      quiet reply none = refl

      its : (calls : Bool) → tells_call reply ≡ calls → CalledIf a calls (not (is_fault reply)) old new → a.failures new ≡ (if not (is_fault reply) then a.failures old else a.failures old + 1)
      its true is call = call.counted
      its false is same = ap a.failures same ∙ sym (ap (λ (b : Bool). if not b then a.failures old else a.failures old + 1) (quiet reply is))
