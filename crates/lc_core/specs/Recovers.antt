-- What a step of a recovery answers, whatever its areas hold.
use Rattle.std.specs.Prelude.{◌≡◌, ◌⊎◌, ℕ, ◌+◌, ◌*◌, ◌<◌, ◌≤◌, Bool, true, false, List, map, Option, None, Some, if◌then◌else◌}
use Rattle.lc_disk.specs.declared.area.Area.{Ghosts}
use Rattle.lc_record.specs.Content.{Content}
use Rattle.lc_model.specs.Merge.{StoreText, MergesTo}
use Rattle.lc_model.specs.declared.event.Event.{Event}
use Rattle.lc_model.specs.declared.event.Event.TheVariants.{RecoverStep}
use Rattle.lc_model.specs.declared.refusal.Refusal.{Refusal}
use Rattle.lc_model.specs.declared.refusal.Refusal.TheVariants.{DeviceFault, Down as IsDown, OutOfTurn}
use Rattle.lc_model.specs.declared.reply.Reply.{Reply}
use Rattle.lc_model.specs.declared.reply.Reply.TheVariants.{Stepped, Recovered, Refused}
use Rattle.lc_recover.specs.Fault.{IsRefusal}
use Rattle.lc_recover.specs.Reads.{AreHonest, store_of}
use Rattle.lc_recover.specs.Recovery.{Recovering, begun, IsLast, IsMerged, IsMergeNext, all_steps}
use Rattle.lc_recover.specs.Steps.{first_steps}
use Rattle.lc_recover.specs.declared.fault.RecoverFault.{RecoverFault}
use Rattle.lc_core.specs.Anew.{StartsAnew}
use Rattle.lc_recover.specs.Fault.{refusal_to}
use Rattle.lc_core.specs.Stepping.{works_up}
use Rattle.lc_core.specs.declared.world_phase.WorldPhase.{WorldPhase}
use Rattle.lc_core.specs.declared.world_phase.WorldPhase.TheVariants.{Down, Up, Taken}
use Rattle.lc_core.specs.declared.up.Up.{Up as Rising}

-- the store merges, and the reply is a step; or it is refused, and so is the reply
abbrev pub AnswersMerge : StoreText → Reply → Type 0
AnswersMerge store reply =
    ((content : Content) × (numbers : ℕ → ℕ) × MergesTo store content numbers × ((steps : ℕ) × (reply ≡ Stepped steps)))
    ⊎ ((fault : RecoverFault) × (refusal : Refusal) × IsRefusal store fault × (refusal_to fault ≡ Some refusal) × (reply ≡ Refused refusal))

-- the call was made, or the device failed
abbrev pub AnswersCall : Reply → Type 0
AnswersCall reply = ((steps : ℕ) × (reply ≡ Stepped steps)) ⊎ ((reply ≡ Recovered) ⊎ (reply ≡ Refused DeviceFault))

abbrev pub is_recovery : Event → Bool
is_recovery RecoverStep = true
is_recovery event = false

module _ {D : Type 0} (a : Ghosts D) where
  -- a step is counted, and after a refusal the recovery begins again; up comes only what has made its last step
  pub record AnswersRecovery (r : Recovering D) (reply : Reply) (new : WorldPhase D a) : Type 0 where
    pub stepped : (steps : ℕ) → reply ≡ Stepped steps →
        (steps ≡ r.steps + 1) × ((later : Recovering D) × (new ≡ Down later) × (later.geometry ≡ r.geometry) × (later.steps ≡ steps))
    pub recovered : reply ≡ Recovered → IsLast r × ((up : Rising D a) × (new ≡ Up up))
    pub refused : (refusal : Refusal) → reply ≡ Refused refusal → (areas : List D) × (new ≡ Down (begun r.geometry areas))
    -- the merge is of what the areas read as
    pub merged : IsMergeNext r → AreHonest a r.areas → AnswersMerge (store_of r.geometry (map a.now r.areas)) reply
    pub called : (IsMergeNext r → ⊥) → AnswersCall reply
    -- the number of pages to write stays as the merge has found it, and gives the step at which the store is up, unless its device fails
    pub pages : (later : Recovering D) → new ≡ Down later → (steps : ℕ) → reply ≡ Stepped steps → (pages : ℕ) → r.pages ≡ Some pages → later.pages ≡ Some pages
    pub ends : IsLast r → (reply ≡ Recovered) ⊎ (reply ≡ Refused DeviceFault)
    -- by the geometry alone there is an end to the steps, and what honest areas read as stays while they are synced and read
    pub few : (steps : ℕ) → reply ≡ Stepped steps → steps ≤ all_steps r.geometry (r.geometry.segments * r.geometry.pages)
    pub reads : (later : Recovering D) → new ≡ Down later → r.steps + 1 < first_steps r.geometry → AreHonest a r.areas → (steps : ℕ) → reply ≡ Stepped steps
        → AreHonest a later.areas × (map a.now later.areas ≡ map a.now r.areas)
    -- after the merge of honest areas what they read as is merged, and it fits the machine's first state, with that
    -- content
    pub found : IsMergeNext r → AreHonest a r.areas → (later : Recovering D) → new ≡ Down later → (steps : ℕ) → reply ≡ Stepped steps → IsMerged a later
    pub anew : IsMergeNext r → AreHonest a r.areas → (steps : ℕ) → reply ≡ Stepped steps → StartsAnew a r.geometry steps new

  -- so does a store that is down
  abbrev pub RecoversDown : WorldPhase D a → Reply → WorldPhase D a → Type 0
  RecoversDown old reply new = (r : Recovering D) → old ≡ Down r → AnswersRecovery r reply new

  -- why a store refuses an event at once: one that is down recovers or stops again, and one that is up does not recover
  abbrev pub at_once : WorldPhase D a → Event → Option Refusal
  at_once (Down r) event = if works_up event then Some IsDown else None
  at_once (Up up) event = if is_recovery event then Some OutOfTurn else None
  at_once Taken event = if works_up event then Some IsDown else if is_recovery event then Some OutOfTurn else None

  -- that is the reply, and nothing changes
  abbrev pub RefusesAtOnce : WorldPhase D a → Event → Reply → WorldPhase D a → Type 0
  RefusesAtOnce old event reply new = (refusal : Refusal) → at_once old event ≡ Some refusal → (reply ≡ Refused refusal) × (new ≡ old)
