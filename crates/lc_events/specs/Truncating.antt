-- Of nodes that run: what a truncation of a node's log is: its flush, the writes of the pages that are due, none of
-- which begins where one is blocked, and its reset, up to the first refusal.
use Rattle.std.specs.Prelude.{ℕ, Bool, false, Option, Some, None}
use Rattle.lc_model.specs.declared.refusal.Refusal.{Refusal}
use Rattle.lc_model.specs.declared.reply.Reply.{Reply}
use Rattle.lc_model.specs.declared.reply.Reply.TheVariants.{Refused}
use Rattle.lc_desk.specs.declared.segment_copy.SegmentCopy.{SegmentCopy}
use Rattle.lc_desk.specs.Truncating.{due_of, newer_of}

abbrev pub refusal_in : Reply → Option Refusal
refusal_in (Refused refusal) = Some refusal
refusal_in reply = None

abbrev pub due_in : ℕ → Bool → Option SegmentCopy → Bool
due_in page begun None = false
due_in page begun (Some slot) = due_of page begun slot.token.token

abbrev pub newer_in : ℕ → Option ℕ → Option SegmentCopy → Bool
newer_in page under_way None = false
newer_in page under_way (Some slot) = newer_of page under_way slot.token.token
