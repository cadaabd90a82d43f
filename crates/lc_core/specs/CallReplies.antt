-- Of the store: which events and replies tell of a call of an area, and of which area.
use Rattle.std.specs.Prelude.{◌≡◌, ⊤, ℕ, ◌+◌, ◌-◌, Bool}
use Rattle.lc_record.specs.declared.geometry.Geometry.{Geometry}
use Rattle.lc_model.specs.declared.event.Event.{Event}
use Rattle.lc_model.specs.declared.event.Event.TheVariants.{FlushStep, PageStep, ResetStep, RecoverStep}
use Rattle.lc_model.specs.declared.reply.Reply.{Reply}
use Rattle.lc_recover.specs.Steps.{first_steps}
use Rattle.lc_journal.specs.CallReplies.{tells_but, tells_call}
use Rattle.lc_events.specs.CallReplies.{calls_log}

-- of any area: also by each step of a page write, and of a recovery by all but the merge
abbrev pub calls_area : Geometry → Event → Reply → Bool
calls_area g (PageStep node segment page) reply = tells_call reply
calls_area g RecoverStep reply = tells_but (first_steps g) reply
calls_area g event reply = calls_log event reply

-- a flush and a reset call the log of their node, a page write the pages of its segment; a recovery calls any
abbrev pub IsCalledBy : Geometry → Event → ℕ → Type 0
IsCalledBy g (FlushStep node) at = at ≡ node
IsCalledBy g (ResetStep node) at = at ≡ node
IsCalledBy g (PageStep node segment page) at = at ≡ g.nodes + (segment - 1)
IsCalledBy g event at = ⊤
