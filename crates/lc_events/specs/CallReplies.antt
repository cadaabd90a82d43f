-- Of nodes that run: which events and replies tell of a call of an area, and of which area.
use Rattle.std.specs.Prelude.{◌≡◌, Bool, true, false, not}
use Rattle.lc_disk.specs.declared.area.Area.{Ghosts}
use Rattle.lc_log.specs.OneCall.{IsOneCall}
use Rattle.lc_model.specs.declared.event.Event.{Event}
use Rattle.lc_model.specs.declared.event.Event.TheVariants.{FlushStep, ResetStep}
use Rattle.lc_model.specs.declared.reply.Reply.{Reply}
use Rattle.lc_journal.specs.FaultReplies.{is_fault}
use Rattle.lc_journal.specs.CallReplies.{tells_but, tells_call}

-- of the log of the node that acts: by each step of a flush, and of a reset by all but the first, which seals the log
abbrev pub calls_log : Event → Reply → Bool
calls_log (FlushStep node) reply = tells_call reply
calls_log (ResetStep node) reply = tells_but 1 reply
calls_log event reply = false

module _ {D : Type 0} (a : Ghosts D) where
  -- the area as one call leaves it where there was one, or as it was
  abbrev pub CalledIf : Bool → Bool → D → D → Type 0
  CalledIf true ok old new = IsOneCall a ok old new
  CalledIf false ok old new = new ≡ old

  -- by a reply of a page write
  abbrev pub CalledAs : Reply → D → D → Type 0
  CalledAs reply old new = CalledIf (tells_call reply) (not (is_fault reply)) old new
