-- What a record of a segment makes of the desk that it comes to.
use Rattle.std.specs.Prelude.{◌≡◌, ◌≤◌, ℕ, false, List, [], ◌∷◌, Some, None, slice_get}
use Rattle.std.specs.Option.{ForSome}
use Rattle.lc_record.specs.Part.{number_in, part_of}
use Rattle.lc_record.specs.declared.part.Part.{Part}
use Rattle.lc_record.specs.declared.record.Record.{Record}
use Rattle.lc_token.specs.Backlog.{Backlog, is_known}
use Rattle.lc_token.specs.declared.received.Received.{Received}
use Rattle.lc_token.specs.declared.received.Received.TheVariants.{Applied, HeldBack, Ignored}
use Rattle.lc_token.specs.Clean.{all_of}
use Rattle.lc_tx.specs.Image.{laid_over}
use Rattle.lc_model.specs.Sound.{Sound}
use Rattle.lc_model.specs.State.{Setting, State}
use Rattle.lc_model.specs.declared.reply.Reply.{Reply}
use Rattle.lc_model.specs.declared.reply.Reply.TheVariants.{Applied as IsApplied, HeldBack as IsHeldBack, Ignored as IsIgnored}
use Rattle.lc_desk.specs.Desk.{FitsDesk}
use Rattle.lc_settled.specs.Numbers.{Numbers, token_number}
use Rattle.lc_settled.specs.Settled.{receive_answer}
use Rattle.lc_desk.specs.Slots.{besides_of, FitsSlots}
use Rattle.lc_settled.specs.Turns.{applied_to, held_back}
use Rattle.lc_desk.specs.declared.desk.Desk.{Desk}
use Rattle.lc_desk.specs.declared.segment_copy.SegmentCopy.{SegmentCopy}

-- the bytes with those of these parts laid over them, the first of them first
abbrev pub parts_over : List Part → List ℕ → List ℕ
parts_over [] bytes = bytes
parts_over (part ∷ parts) bytes = parts_over parts (laid_over part.ranges bytes)

-- none is due any more
abbrev pub without_due : Backlog → Backlog
without_due backlog = record backlog { due = [] }

-- what was due is on the image, and nothing else of the slot has changed
pub record CatchesUp (old new : SegmentCopy) : Type 0 where
  pub bytes : new.image.bytes.items ≡ parts_over old.parts.due old.image.bytes.items
  pub holders : new.image.holders ≡ old.image.holders
  pub token : new.token ≡ old.token
  pub parts : new.parts ≡ without_due old.parts

-- the numbers once a record with this number of a segment has come to a node, which answered so
abbrev pub received_numbers : Numbers → ℕ → ℕ → ℕ → Received → Numbers
received_numbers x node segment number (Applied last) = applied_to x node segment last
received_numbers x node segment number HeldBack = held_back x node segment (Some number)
received_numbers x node segment number Ignored = x

abbrev pub reply_of : Received → Reply
reply_of (Applied last) = IsApplied last
reply_of HeldBack = IsHeldBack
reply_of Ignored = IsIgnored

-- a closed record of the segment comes to a desk that fits the machine and the numbers: the answer is the one that is
-- settled, and the desk fits the machine, which stays, and the numbers after that answer
abbrev pub FollowsReceive : ℕ → Record → Desk → Received → Desk → Type 0
FollowsReceive segment whole old answer new =
    (m : Setting) (node : ℕ) (s : State) (x : Numbers) (place number : ℕ) → Sound m.geometry s
    → FitsDesk m node old.here old.seats.items s → FitsSlots m node (besides_of old.here) s x
    → slice_get (all_of m s x.disks) place ≡ Some whole → number_in segment whole.locks ≡ Some number → number ≤ token_number s x segment
    → (reply_of answer ≡ receive_answer x node segment number)
    × FitsDesk m node new.here new.seats.items s
    × FitsSlots m node (besides_of new.here) s (received_numbers x node segment number answer)

-- the token is elsewhere, and the record's number of the segment is neither applied nor kept
abbrev pub IsNew : ℕ → Record → SegmentCopy → Type 0
IsNew segment whole slot = (slot.token.token ≡ None) × ForSome (part_of segment whole) (λ part. is_known slot.parts part.seq ≡ false)
