-- Of nodes that run: which replies an event may get at all, whatever the store holds and whatever its areas are.
use Rattle.std.specs.Prelude.{Bool, true, false, ◌&&◌, ◌||◌, Some, is_some}
use Rattle.lc_model.specs.Machine.{may_deliver, may_page, may_refuse_reserve, may_reset, may_trim}
use Rattle.lc_model.specs.Refusals.{named}
use Rattle.lc_model.specs.declared.event.Event.{Event}
use Rattle.lc_model.specs.declared.event.Event.TheVariants.{Begin, SetRange, Write, Read, Abort, Reserve, Close, FlushStep, Leave, Arrive, Deliver, Trim, PageStep, ResetStep, Stop, RecoverStep}
use Rattle.lc_model.specs.declared.refusal.Refusal.{Refusal}
use Rattle.lc_model.specs.declared.refusal.Refusal.TheVariants.{BadGeometry, Behind, DeviceFault, Down as IsDown, Gap, Halted, OutOfSegment, OutOfTurn, Twice, Unknown}
use Rattle.lc_model.specs.declared.reply.Reply.{Reply}
use Rattle.lc_model.specs.declared.reply.Reply.TheVariants.{Reserved, Ended, Stepped, Down, Recovered, Refused}
use Rattle.lc_desk.specs.MayReply.{done_or, is_turn, may_read, may_refuse_begin, may_refuse_leave, may_refuse_range, may_refuse_write}
use Rattle.lc_journal.specs.MayReply.{may_flush, or_fault}

abbrev pub may_refuse_arrive : Refusal → Bool
may_refuse_arrive OutOfTurn = true
may_refuse_arrive (Behind applied seq) = true
may_refuse_arrive refusal = false

abbrev pub may_refuse_recovery : Refusal → Bool
may_refuse_recovery OutOfTurn = true
may_refuse_recovery (BadGeometry area) = true
may_refuse_recovery (OutOfSegment (Some area)) = true
may_refuse_recovery (Twice segment seq) = true
may_refuse_recovery (Gap segment seq) = true
may_refuse_recovery DeviceFault = true
may_refuse_recovery refusal = false

abbrev pub may_reserve : Reply → Bool
may_reserve (Reserved place words) = true
may_reserve Ended = true
may_reserve (Refused refusal) = is_turn refusal || may_refuse_reserve refusal
may_reserve reply = false

abbrev pub may_stop : Reply → Bool
may_stop Down = true
may_stop reply = false

abbrev pub may_recover : Reply → Bool
may_recover (Stepped steps) = true
may_recover Recovered = true
may_recover (Refused refusal) = may_refuse_recovery refusal
may_recover reply = false

-- by the event
abbrev pub may_answer : Event → Reply → Bool
may_answer (Begin node thread segments reading) reply = done_or may_refuse_begin reply
may_answer (SetRange node thread segment offset len) reply = done_or may_refuse_range reply
may_answer (Write node thread segment offset bytes) reply = done_or may_refuse_write reply
may_answer (Read node thread segment offset len) reply = may_read reply
may_answer (Abort node thread) reply = done_or is_turn reply
may_answer (Reserve node thread) reply = may_reserve reply
may_answer (Close node thread) reply = done_or is_turn reply
may_answer (FlushStep node) reply = or_fault may_flush reply
may_answer (Leave node segment) reply = done_or may_refuse_leave reply
may_answer (Arrive node segment) reply = done_or may_refuse_arrive reply
may_answer (Deliver sender number segment to) reply = may_deliver reply
may_answer (Trim node) reply = may_trim reply
may_answer (PageStep node segment page) reply = or_fault may_page reply
may_answer (ResetStep node) reply = or_fault may_reset reply
may_answer (Stop choices) reply = may_stop reply
may_answer RecoverStep reply = may_recover reply

-- why any event is refused that a node acts in
abbrev pub is_common : Refusal → Bool
is_common IsDown = true
is_common Unknown = true
is_common Halted = true
is_common refusal = false

abbrev pub refuses_common : Reply → Bool
refuses_common (Refused refusal) = is_common refusal
refuses_common reply = false

-- its own replies, or one of these refusals
abbrev pub may_reply : Event → Reply → Bool
may_reply event reply = may_answer event reply || (is_some (named event) && refuses_common reply)
