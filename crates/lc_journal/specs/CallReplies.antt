-- Of a journal: which events and replies tell of a call of an area, and of which area.
use Rattle.std.specs.Prelude.{ℕ, Bool, true, false, ◌==◌, not}
use Rattle.lc_model.specs.declared.reply.Reply.{Reply}
use Rattle.lc_model.specs.declared.reply.Reply.TheVariants.{Stepped, Acked, Written, Recovered, Refused}
use Rattle.lc_journal.specs.FaultReplies.{is_device_fault}

-- a step is done, the last one too, or a device has failed
abbrev pub tells_call : Reply → Bool
tells_call (Stepped steps) = true
tells_call (Acked count) = true
tells_call (Written number) = true
tells_call Recovered = true
tells_call (Refused refusal) = is_device_fault refusal
tells_call reply = false

-- but the step of this number is done without a call
abbrev pub tells_but : ℕ → Reply → Bool
tells_but free (Stepped steps) = not (steps == free)
tells_but free reply = tells_call reply
