-- Of a desk: what it is that a node's transactions follow the machine.
use Rattle.std.specs.Prelude.{◌≡◌, ℕ, true}
use Rattle.lc_model.specs.Sound.{Sound}
use Rattle.lc_model.specs.State.{Setting, State}
use Rattle.lc_model.specs.Machine.{Row}
use Rattle.lc_model.specs.Refusals.{is_known}
use Rattle.lc_model.specs.declared.event.Event.{Event}
use Rattle.lc_model.specs.declared.reply.Reply.{Reply}
use Rattle.lc_desk.specs.declared.desk.Desk.{Desk}
use Rattle.lc_desk.specs.Desk.{FitsDesk}
use Rattle.lc_settled.specs.FollowsDesk.{SameButOpen}

-- whatever state of the machine the desk fits, it goes on to one that the event's row allows under this reply
abbrev pub FollowsOpen : ℕ → Desk → Event → Reply → Desk → Type 0
FollowsOpen node old event reply new =
    (m : Setting) (s : State) → is_known m.geometry event ≡ true → Sound m.geometry s → FitsDesk m node old.here old.seats.items s
    → (after : State) × Row m s event reply after × SameButOpen node s after × FitsDesk m node new.here new.seats.items after

-- whatever it fitted, it still fits
abbrev pub StillFits : Desk → Desk → Type 0
StillFits old new = (m : Setting) (node : ℕ) (s : State) → FitsDesk m node old.here old.seats.items s → FitsDesk m node new.here new.seats.items s
