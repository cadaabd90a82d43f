-- What becomes of a command, by the reply: it is done, it is refused, or a device has failed.
use Rattle.lc_model.specs.declared.refusal.Refusal.{Refusal}
use Rattle.lc_model.specs.declared.refusal.Refusal.TheVariants.{DeviceFault}
use Rattle.lc_model.specs.declared.reply.Reply.{Reply}
use Rattle.lc_model.specs.declared.reply.Reply.TheVariants.{Refused as IsRefused}
use Rattle.lc_tool.specs.declared.verdict.Verdict.{Verdict}
use Rattle.lc_tool.specs.declared.verdict.Verdict.TheVariants.{Done, Refused, Faulted}

abbrev pub verdict_on : Refusal → Verdict
verdict_on DeviceFault = Faulted
verdict_on refusal = Refused

abbrev pub verdict_of : Reply → Verdict
verdict_of (IsRefused refusal) = verdict_on refusal
verdict_of reply = Done
