-- Of a journal: what it is that the log of a node follows the machine.
use Rattle.std.specs.Prelude.{ℕ}
use Rattle.lc_disk.specs.declared.area.Area.{Ghosts}
use Rattle.lc_model.specs.State.{Setting, State}
use Rattle.lc_model.specs.Machine.{Row}
use Rattle.lc_model.specs.declared.event.Event.{Event}
use Rattle.lc_model.specs.declared.reply.Reply.{Reply}
use Rattle.lc_settled.specs.Numbers.{Numbers}
use Rattle.lc_journal.specs.declared.journal.Journal.{Journal}
use Rattle.lc_journal.specs.Journal.{FitsLog}
use Rattle.lc_settled.specs.Follows.{SameButLog}

module _ {D : Type 0} (a : Ghosts D) where
  abbrev pub FitsJournal : Setting → ℕ → Journal D a → State → Numbers → Type 0
  FitsJournal m node w s x = FitsLog a m node w.log w.records w.dropped w.trimmed w.taken w.acked s x

  -- whatever state of the machine the journal fits, it goes on to one that the event's row allows under this reply
  abbrev pub FollowsLog : ℕ → Journal D a → Event → Reply → Journal D a → Type 0
  FollowsLog node old event reply new =
      (m : Setting) (s : State) (x : Numbers) → FitsJournal m node old s x
      → (after : State) × Row m s event reply after × SameButLog node s after × FitsJournal m node new after x
