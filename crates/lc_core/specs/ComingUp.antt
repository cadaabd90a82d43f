-- A recovery by one call: its steps one after another, up to the first that does not say that more are to come.
use Rattle.std.specs.Prelude.{◌≡◌, ℕ, ◌-◌, ◌*◌, ◌≤◌, suc, zero, Option, Some, None, Result, Ok, Err}
use Rattle.lc_disk.specs.declared.area.Area.{Ghosts}
use Rattle.lc_model.specs.declared.event.Event.TheVariants.{RecoverStep}
use Rattle.lc_model.specs.declared.reply.Reply.{Reply}
use Rattle.lc_model.specs.declared.reply.Reply.TheVariants.{Stepped, Recovered, Refused}
use Rattle.lc_recover.specs.Recovery.{all_steps}
use Rattle.lc_core.specs.Answered.{WantsMemory}
use Rattle.lc_core.specs.Recovers.{RecoversDown}
use Rattle.lc_core.specs.Truncating.{StepsTo}
use Rattle.lc_events.specs.declared.call_fault.CallFault.{CallFault}
use Rattle.lc_events.specs.declared.call_fault.CallFault.TheVariants.{NoMemory, Refused as IsRefused}
use Rattle.lc_core.specs.declared.world_phase.WorldPhase.{WorldPhase}
use Rattle.lc_core.specs.declared.world_phase.WorldPhase.TheVariants.{Down, Up, Taken}
use Rattle.lc_core.specs.declared.world.World.{World}

-- the reply that ends the steps; there is none where memory was wanted
abbrev pub last_reply : Result (Unit {0}) CallFault → Option Reply
last_reply (Ok its) = Some Recovered
last_reply (Err (IsRefused refusal)) = Some (Refused refusal)
last_reply (Err NoMemory) = None

module _ {D : Type 0} (a : Ghosts D) where
  -- a step of a recovery led from the one store to the other under this reply
  pub record RecoversTo (old : World D a) (reply : Reply) (new : World D a) : Type 0 where
    pub steps : StepsTo a old RecoverStep reply new
    pub recovers : RecoversDown a old.phase reply new.phase

  -- it wanted memory, and nothing has changed
  pub record WantsToRecover (old new : World D a) : Type 0 where
    pub wants : WantsMemory a old RecoverStep new
    pub same : new.phase ≡ old.phase

  -- so many steps say that more are to come; the next says this, or wants memory
  abbrev pub RecoversIn : ℕ → World D a → Option Reply → World D a → Type 0
  RecoversIn zero old None new = WantsToRecover old new
  RecoversIn zero old (Some reply) new = RecoversTo old reply new
  RecoversIn (suc more) old last new = (steps : ℕ) × (mid : World D a) × RecoversTo old (Stepped steps) mid × RecoversIn more mid last new

  -- how many steps a recovery has left at most: as many as where it writes each page
  abbrev pub steps_left : WorldPhase D a → ℕ
  steps_left (Down r) = all_steps r.geometry (r.geometry.segments * r.geometry.pages) - r.steps
  steps_left (Up up) = 0
  steps_left Taken = 0

  -- what came of the call
  pub record ComesUpBy (old : World D a) (result : Result (Unit {0}) CallFault) (new : World D a) : Type 0 where
    pub more : ℕ
    pub few : more ≤ steps_left old.phase
    pub steps : RecoversIn more old (last_reply result) new
