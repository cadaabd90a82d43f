-- What C reads of a reply: the status is 0, the number of the refusal, or 64 where there was no memory.
use Rattle.std.specs.Prelude.{ℕ, true, false, Some, Result, Ok, Err}
use Rattle.std.specs.declared.alloc.AllocError.{AllocError}
use Rattle.lc_model.specs.Numbers.{number_of}
use Rattle.lc_model.specs.declared.refusal.Refusal.{Refusal}
use Rattle.lc_model.specs.declared.refusal.Refusal.TheVariants.{Busy, NotHere, OutOfSegment, SequenceSpent, TooLong, Full, Behind, Unclean, BadGeometry, Twice, Gap, ReadOnly}
use Rattle.lc_model.specs.declared.reply.Reply.{Reply}
use Rattle.lc_model.specs.declared.reply.Reply.TheVariants.{Ok as IsDone, Bytes, Reserved, Ended, Stepped, Acked, Nothing, Applied, HeldBack, Ignored, Trimmed, Written, Reset, Down, Recovered, Refused}
use Rattle.lc_c.specs.declared.answer.Answer.{Answer}

abbrev pub nothing_said : Answer
nothing_said = record {
  status = 0;
  reply = 0;
  has_area = false;
  segment = 0;
  area = 0;
  words = 0;
  tail = 0;
  need = 0;
  place = 0;
  sequence = 0;
  applied = 0;
  count = 0;
}

-- a reply of this number that counts so many
abbrev pub counted : ℕ → ℕ → Answer
counted reply count = record nothing_said { reply = reply; count = count }

-- a refusal without fields
abbrev pub refused : Refusal → Answer
refused refusal = record nothing_said { status = number_of refusal }

abbrev pub of_refusal : Refusal → Answer
of_refusal (Busy segment) = record (refused (Busy segment)) { segment = segment }
of_refusal (NotHere segment) = record (refused (NotHere segment)) { segment = segment }
of_refusal (SequenceSpent segment) = record (refused (SequenceSpent segment)) { segment = segment }
of_refusal (ReadOnly segment) = record (refused (ReadOnly segment)) { segment = segment }
of_refusal (OutOfSegment (Some area)) = record (refused (OutOfSegment (Some area))) { has_area = true; area = area }
of_refusal (TooLong words) = record (refused (TooLong words)) { words = words }
of_refusal (Full tail need) = record (refused (Full tail need)) { tail = tail; need = need }
of_refusal (Behind applied seq) = record (refused (Behind applied seq)) { applied = applied; sequence = seq }
of_refusal (Unclean segment seq) = record (refused (Unclean segment seq)) { segment = segment; sequence = seq }
of_refusal (Twice segment seq) = record (refused (Twice segment seq)) { segment = segment; sequence = seq }
of_refusal (Gap segment seq) = record (refused (Gap segment seq)) { segment = segment; sequence = seq }
of_refusal (BadGeometry area) = record (refused (BadGeometry area)) { area = area }
of_refusal refusal = refused refusal

abbrev pub of_reply : Reply → Answer
of_reply IsDone = counted 0 0
of_reply (Reserved place words) = record nothing_said { reply = 1; place = place; words = words }
of_reply Ended = counted 2 0
of_reply (Stepped steps) = counted 3 steps
of_reply (Acked records) = counted 4 records
of_reply Nothing = counted 5 0
of_reply (Applied number) = counted 6 number
of_reply HeldBack = counted 7 0
of_reply Ignored = counted 8 0
of_reply (Trimmed records) = counted 9 records
of_reply (Written number) = counted 10 number
of_reply Reset = counted 11 0
of_reply Recovered = counted 12 0
of_reply (Bytes bytes) = counted 13 0
of_reply Down = counted 14 0
of_reply (Refused refusal) = of_refusal refusal

abbrev pub answer_of : Result Reply AllocError → Answer
answer_of (Ok reply) = of_reply reply
answer_of (Err error) = record nothing_said { status = 64 }
