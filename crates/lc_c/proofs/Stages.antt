-- What a session makes of its stage.
use Rattle.std.proofs.Common.{◌≡◌, List, true, false, refl, sym, subst}
use Rattle.std.specs.Prelude.{Result, Ok, Err, IfOk, IfErr, OnErr}
use Rattle.std.specs.declared.alloc.AllocError.{AllocError}
use Rattle.lc_disk.specs.declared.choice.Choice.{Choice}
use Rattle.lc_model.specs.declared.event.Event.{Event}
use Rattle.lc_model.specs.declared.event.Event.TheVariants.{Stop}
use Rattle.lc_model.specs.declared.refusal.Refusal.{Refusal}
use Rattle.lc_model.specs.declared.reply.Reply.{Reply}
use Rattle.lc_model.specs.declared.reply.Reply.TheVariants.{Refused}
use Rattle.lc_core.proofs.Replying.{steps_of}
use Rattle.lc_core.specs.Answered.{ComesTo}
use Rattle.lc_core.specs.Calls.{CallsArea, KeepsAreas}
use Rattle.lc_events.specs.MayReply.{may_reply}
use Rattle.lc_core.specs.Faults.{CountsPhase, phase_failures}
use Rattle.lc_core.specs.Geometries.{RefusesOutside, phase_geometry}
use Rattle.lc_core.specs.Lives.{Anyhow, StillLives}
use Rattle.lc_core.specs.Recovers.{RefusesAtOnce}
use Rattle.lc_core.specs.Truncating.{StepsTo}
use Rattle.lc_core.specs.World.{AsksIn, AsksWorld, FollowsWorld, StillFitsWorld}
use Rattle.lc_c.specs.SessionState.{StepsStage, SessionStore, is_step, replied}
use Rattle.lc_c.specs.contracts.mirror_area.MirrorAreaArea.TheImpl.{ghosts}
use Rattle.lc_c.specs.declared.session_state.SessionState.{SessionState}
use Rattle.lc_c.specs.declared.session_state.SessionState.TheVariants.{Open}

no_stop : (event : Event) → is_step event ≡ true → (choices : List (List Choice)) → event ≡ Stop choices → ⊥
no_stop event step choices is = let stops : false ≡ true = subst (λ e. is_step e ≡ true) is step in cc

-- a store that is open comes to what its step says
pub steps_open : (stage : SessionState) (store after : SessionStore) (event : Event) (said : Result Reply AllocError) → stage ≡ Open store
    → ComesTo ghosts store event (replied said) after → StepsStage stage event said (Open after)
steps_open stage store after event said is comes = subst (λ s. StepsStage s event said (Open after)) (sym is) (after, refl, comes)

module _ (store : SessionStore) (event : Event) (after : SessionStore) where
  pub comes : (said : Result Reply AllocError) → is_step event ≡ true
      → IfOk said (λ reply. FollowsWorld ghosts store event reply after) → OnErr said (AsksWorld ghosts store event) → OnErr said (StillFitsWorld ghosts store after)
      → OnErr said (StillLives ghosts store.phase after.phase)
      → OnErr said (AsksIn ghosts store.phase event) → IfOk said (λ reply. RefusesAtOnce ghosts store.phase event reply after.phase)
      → IfOk said (λ reply. CountsPhase ghosts store.phase reply after.phase) → OnErr said (phase_failures ghosts after.phase ≡ phase_failures ghosts store.phase)
      → phase_geometry ghosts after.phase ≡ phase_geometry ghosts store.phase → IfOk said (RefusesOutside ghosts store.phase event)
      → IfOk said (λ reply. ((choices : List (List Choice)) → event ≡ Stop choices → ⊥) → CallsArea ghosts store.phase event reply after.phase) → OnErr said (KeepsAreas ghosts store.phase after.phase)
      → IfOk said (λ reply. ((choices : List (List Choice)) → event ≡ Stop choices → ⊥) → Anyhow ghosts store.phase event reply after.phase)
      → IfOk said (λ reply. may_reply event reply ≡ true)
      → ComesTo ghosts store event (replied said) after
  comes (Ok reply) step follows asks still lives at_all at_once faults failures geometry unknown calls kept anyhow names =
      steps_of ghosts store event reply after (no_stop event step) follows at_once faults geometry unknown calls anyhow names
  comes (Err error) step follows asks still lives at_all at_once faults failures geometry unknown calls kept anyhow names =
      record { asks = asks; at_all = at_all; still = still; lives = lives; failures = failures; geometry = geometry; kept = kept }

-- the same of a read, which leaves the store
pub reads_open : {X : Type 0} (stage : SessionState) (store : SessionStore) (event : Event) (reply : Reply) (result : Result X Refusal) → stage ≡ Open store
    → IfOk result (λ its. StepsTo ghosts store event reply store) → IfOk result (λ its. StepsStage stage event (Ok reply) stage)
reads_open stage store event reply (Ok its) is steps = subst (λ s. StepsStage s event (Ok reply) s) (sym is) (store, refl, steps)
reads_open stage store event reply (Err refusal) is steps = steps

pub refuses_open : {X : Type 0} (stage : SessionState) (store : SessionStore) (event : Event) (result : Result X Refusal) → stage ≡ Open store
    → IfErr result (λ refusal. StepsTo ghosts store event (Refused refusal) store) → IfErr result (λ refusal. StepsStage stage event (Ok (Refused refusal)) stage)
refuses_open stage store event (Ok its) is steps = steps
refuses_open stage store event (Err refusal) is steps = subst (λ s. StepsStage s event (Ok (Refused refusal)) s) (sym is) (store, refl, steps)
