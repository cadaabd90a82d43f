-- Of nodes that run: which replies tell of a call, event by event.
use Rattle.std.proofs.Common.{◌≡◌, ℕ, true, false, refl, sym, true≢false}
use Rattle.lc_model.specs.declared.event.Event.{Event}
use Rattle.lc_model.specs.declared.event.Event.TheVariants.{FlushStep, ResetStep}
use Rattle.lc_model.specs.declared.refusal.Refusal.{Refusal}
use Rattle.lc_model.specs.declared.reply.Reply.{Reply}
use Rattle.lc_model.specs.declared.reply.Reply.TheVariants.{Refused}
use Rattle.lc_events.specs.CallReplies.{calls_log}
use Rattle.lc_journal.specs.FaultReplies.{is_device_fault}
use Rattle.lc_events.specs.Faults.{IsLogOf}
use Rattle.lc_events.specs.NodeSteps.{IsOf}

-- what is refused for another reason than a device makes no call
pub refused_log : (event : Event) (refusal : Refusal) → is_device_fault refusal ≡ false → calls_log event (Refused refusal) ≡ false
refused_log (FlushStep node) refusal plain = plain
refused_log (ResetStep node) refusal plain = plain
refused_log event refusal plain = refl

-- the log of the node that acts is the one that is called
pub log_of : (n threads : ℕ) (event : Event) (reply : Reply) → IsOf n threads event → calls_log event reply ≡ true → IsLogOf event n
log_of n threads (FlushStep node) reply of calls = sym of
log_of n threads (ResetStep node) reply of calls = sym of
log_of n threads event reply of calls = absurd (true≢false (sym calls))
