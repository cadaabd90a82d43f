-- Of nodes that run: what the calls of a store hand out, as the replies to their events.
use Rattle.std.specs.Prelude.{◌≡◌, ℕ, Bool, true, false, Option, Some, None, Result, Ok, Err}
use Rattle.lc_model.specs.declared.event.Event.{Event}
use Rattle.lc_model.specs.declared.event.Event.TheVariants.{Begin, Write, Abort, Close, Leave, Arrive}
use Rattle.lc_model.specs.declared.refusal.Refusal.{Refusal}
use Rattle.lc_model.specs.declared.reply.Reply.{Reply}
use Rattle.lc_model.specs.declared.reply.Reply.TheVariants.{Ok as Accepted, Reserved as HasPlace, Ended, Stepped, Acked, Nothing, Applied, HeldBack, Ignored, Trimmed, Written, Reset, Refused}
use Rattle.lc_events.specs.MayReply.{may_reply}
use Rattle.lc_events.specs.declared.call_fault.CallFault.{CallFault}
use Rattle.lc_events.specs.declared.call_fault.CallFault.TheVariants.{NoMemory, Refused as IsRefused}
use Rattle.lc_events.specs.declared.flush_progress.FlushProgress.{FlushProgress}
use Rattle.lc_events.specs.declared.flush_progress.FlushProgress.TheVariants.{Stepped as HasFlushed, Acked as HasAcked, Nothing as NoneToFlush}
use Rattle.lc_events.specs.declared.delivery_outcome.DeliveryOutcome.{DeliveryOutcome}
use Rattle.lc_events.specs.declared.delivery_outcome.DeliveryOutcome.TheVariants.{Applied as IsApplied, HeldBack as IsHeldBack, Ignored as IsIgnored}
use Rattle.lc_events.specs.declared.placement.Placement.{Placement}
use Rattle.lc_events.specs.declared.placement.Placement.TheVariants.{Record as HasRecord, Empty as IsEmpty}
use Rattle.lc_events.specs.declared.reset_progress.ResetProgress.{ResetProgress}
use Rattle.lc_events.specs.declared.reset_progress.ResetProgress.TheVariants.{Stepped as HasReset, Reset as IsReset, Nothing as NoneToReset}
use Rattle.lc_events.specs.declared.write_progress.WriteProgress.{WriteProgress}
use Rattle.lc_events.specs.declared.write_progress.WriteProgress.TheVariants.{Stepped as HasCalled, Written as IsWritten}

abbrev pub is_done_or_not : Event → Bool
is_done_or_not (Begin node thread segments reading) = true
is_done_or_not (Write node thread segment offset bytes) = true
is_done_or_not (Abort node thread) = true
is_done_or_not (Close node thread) = true
is_done_or_not (Leave node segment) = true
is_done_or_not (Arrive node segment) = true
is_done_or_not event = false

-- a call hands this out for a reply: it is the reply, where the event may get it at all
abbrev pub StandsFor : Event → Option Reply → Reply → Type 0
StandsFor event answer reply = may_reply event reply ≡ true → answer ≡ Some reply

-- The reply that each result stands for

-- it is done, or refused
abbrev pub done : Result (Unit {0}) Refusal → Reply
done (Ok its) = Accepted
done (Err refusal) = Refused refusal

-- how far the flush of a log is
abbrev pub flushed : Result FlushProgress Refusal → Reply
flushed (Ok (HasFlushed calls)) = Stepped calls
flushed (Ok (HasAcked count)) = Acked count
flushed (Ok NoneToFlush) = Nothing
flushed (Err refusal) = Refused refusal

-- how far the write of a page is
abbrev pub written : Result WriteProgress Refusal → Reply
written (Ok (HasCalled calls)) = Stepped calls
written (Ok (IsWritten number)) = Written number
written (Err refusal) = Refused refusal

-- how far the reset of a log is
abbrev pub emptied : Result ResetProgress Refusal → Reply
emptied (Ok (HasReset steps)) = Stepped steps
emptied (Ok IsReset) = Reset
emptied (Ok NoneToReset) = Nothing
emptied (Err refusal) = Refused refusal

-- how many records were dropped
abbrev pub trimmed : Result ℕ Refusal → Reply
trimmed (Ok count) = Trimmed count
trimmed (Err refusal) = Refused refusal

-- The same where memory may be wanted, and there is no reply then

abbrev pub range_set : Result (Unit {0}) CallFault → Option Reply
range_set (Ok its) = Some Accepted
range_set (Err (IsRefused refusal)) = Some (Refused refusal)
range_set (Err NoMemory) = None

-- where the record stands, or that there is none
abbrev pub place_taken : Result Placement CallFault → Option Reply
place_taken (Ok (HasRecord place words)) = Some (HasPlace place words)
place_taken (Ok IsEmpty) = Some Ended
place_taken (Err (IsRefused refusal)) = Some (Refused refusal)
place_taken (Err NoMemory) = None

-- what became of the record
abbrev pub received : Result DeliveryOutcome CallFault → Option Reply
received (Ok (IsApplied number)) = Some (Applied number)
received (Ok IsHeldBack) = Some HeldBack
received (Ok IsIgnored) = Some Ignored
received (Err (IsRefused refusal)) = Some (Refused refusal)
received (Err NoMemory) = None

-- the record stands there, unless it is not closed
abbrev pub closed_at : Result (Unit {0}) Refusal → Placement → Result Placement CallFault
closed_at (Ok its) placement = Ok placement
closed_at (Err refusal) placement = Err (IsRefused refusal)
