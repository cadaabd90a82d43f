-- A session empties the log of a node, a device call at a time.
use Rattle.std.specs.Prelude.{◌≡◌, ℕ, ◌==◌, if◌then◌else◌, Option, None, Some}
use Rattle.lc_model.specs.declared.reply.Reply.{Reply}
use Rattle.lc_model.specs.declared.reply.Reply.TheVariants.{Refused, Stepped}
use Rattle.lc_core.specs.Truncation.{IsFewer, IsOf, Leads, MakesOneOf, Remains, steps_left, whole}
use Rattle.lc_core.specs.declared.truncation.Truncation.{Truncation}
use Rattle.lc_core.specs.declared.truncation_step.TruncationStep.{TruncationStep}
use Rattle.lc_core.specs.declared.truncation_step.TruncationStep.TheVariants.{Continues, Ends}
use Rattle.lc_c.specs.SessionState.{SessionStore, refusal_of}
use Rattle.lc_c.specs.contracts.mirror_area.MirrorAreaArea.TheImpl.{ghosts}
use Rattle.lc_c.specs.declared.session.Session.{Session}
use Rattle.lc_c.specs.declared.session_state.SessionState.{SessionState}
use Rattle.lc_c.specs.declared.session_state.SessionState.TheVariants.{Open}

-- the truncation that is under way at the node, or else a new one
abbrev pub going_on : Option Truncation → ℕ → Truncation
going_on None node = whole node
going_on (Some truncation) node = if truncation.node == node then truncation else whole node

-- what is under way after a step
abbrev pub left_of : TruncationStep → Option Truncation
left_of (Continues next) = Some next
left_of (Ends reply) = None

-- more is to come, or the last reply
abbrev pub reply_of : TruncationStep → Reply
reply_of (Continues next) = Stepped 0
reply_of (Ends reply) = reply

-- what remained of the truncation is this step and what remains then; it makes one call of a device at most
pub record TakesStep (truncation : Truncation) (old : SessionStore) (step : TruncationStep) (new : SessionStore) : Type 0 where
  pub remains : Leads ghosts (Remains ghosts truncation) old step new
  pub one : MakesOneOf ghosts truncation.node old step new
  pub fewer : IsFewer ghosts (steps_left truncation) step
  pub node : IsOf ghosts truncation.node step

-- so it is of a store that is open; one that is not refuses it
abbrev pub TruncatesStage : SessionState → Truncation → TruncationStep → SessionState → Type 0
TruncatesStage (Open store) truncation step new = (after : SessionStore) × (new ≡ Open after) × TakesStep truncation store step after
TruncatesStage stage truncation step new = (step ≡ Ends (Refused (refusal_of stage))) × (new ≡ stage)

pub record Truncates (node : ℕ) (old : Session) (reply : Reply) (new : Session) : Type 0 where
  pub step : TruncationStep
  pub steps : TruncatesStage old.stage (going_on old.truncation node) step new.stage
  pub answers : reply ≡ reply_of step
  pub truncation : new.truncation ≡ left_of step
