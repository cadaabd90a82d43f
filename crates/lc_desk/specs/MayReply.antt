-- Of a desk: which replies an event may get at all, whatever the store holds and whatever its areas are.
use Rattle.std.specs.Prelude.{Bool, true, false, ◌||◌, None}
use Rattle.lc_model.specs.Machine.{may_refuse_reserve}
use Rattle.lc_model.specs.declared.refusal.Refusal.{Refusal}
use Rattle.lc_model.specs.declared.refusal.Refusal.TheVariants.{Busy, EmptyRange, Held, NoRange, NotHere, NotLocked, OutOfSegment, OutOfTurn, ReadOnly, TooManyRanges, Unflushed, Writing}
use Rattle.lc_model.specs.declared.reply.Reply.{Reply}
use Rattle.lc_model.specs.declared.reply.Reply.TheVariants.{Ok as Accepted, Bytes, Refused}
use Rattle.lc_desk.specs.declared.ending.Ending.{Ending}
use Rattle.lc_desk.specs.declared.ending.Ending.TheVariants.{Refused as IsRefused}

-- Refusals of an event's own

abbrev pub may_refuse_begin : Refusal → Bool
may_refuse_begin OutOfTurn = true
may_refuse_begin (NotHere segment) = true
may_refuse_begin (Busy segment) = true
may_refuse_begin refusal = false

abbrev pub may_refuse_range : Refusal → Bool
may_refuse_range OutOfTurn = true
may_refuse_range NotLocked = true
may_refuse_range (ReadOnly segment) = true
may_refuse_range EmptyRange = true
may_refuse_range (OutOfSegment None) = true
may_refuse_range TooManyRanges = true
may_refuse_range refusal = false

abbrev pub may_refuse_write : Refusal → Bool
may_refuse_write OutOfTurn = true
may_refuse_write NotLocked = true
may_refuse_write (ReadOnly segment) = true
may_refuse_write (OutOfSegment None) = true
may_refuse_write NoRange = true
may_refuse_write refusal = false

abbrev pub may_refuse_read : Refusal → Bool
may_refuse_read OutOfTurn = true
may_refuse_read NotLocked = true
may_refuse_read (OutOfSegment None) = true
may_refuse_read refusal = false

abbrev pub is_turn : Refusal → Bool
is_turn OutOfTurn = true
is_turn refusal = false

abbrev pub may_refuse_leave : Refusal → Bool
may_refuse_leave (NotHere segment) = true
may_refuse_leave Held = true
may_refuse_leave Writing = true
may_refuse_leave Unflushed = true
may_refuse_leave refusal = false

-- Replies of an event's own

-- it is done, or refused so
abbrev pub done_or : (Refusal → Bool) → Reply → Bool
done_or may Accepted = true
done_or may (Refused refusal) = may refusal
done_or may reply = false

abbrev pub may_read : Reply → Bool
may_read (Bytes bytes) = true
may_read (Refused refusal) = may_refuse_read refusal
may_read reply = false

-- before it has its place
abbrev pub may_end : Ending → Bool
may_end (IsRefused refusal) = is_turn refusal || may_refuse_reserve refusal
may_end ending = true
