-- Of state and numbers: what it is that a store follows the machine and the numbers over a list of events.
use Rattle.std.specs.Prelude.{◌≡◌, List, [], ◌∷◌}
use Rattle.lc_model.specs.Machine.{Step}
use Rattle.lc_model.specs.State.{Setting, State}
use Rattle.lc_model.specs.declared.event.Event.{Event}
use Rattle.lc_model.specs.declared.reply.Reply.{Reply}
use Rattle.lc_settled.specs.Numbers.{Numbers}
use Rattle.lc_settled.specs.Settled.{Settled}
use Rattle.lc_settled.specs.Turns.{Turns}

-- the machine may give these replies to these events, each is settled, and the numbers turn with them
abbrev pub RunsOn : Setting → State → Numbers → List Event → List Reply → State → Numbers → Type 0
RunsOn m s x [] [] after next = (after ≡ s) × (next ≡ x)
RunsOn m s x (event ∷ events) (reply ∷ replies) after next =
    (mid : State) × (between : Numbers) × Step m s event reply mid × Settled m s x event reply × Turns m s x event reply between
    × RunsOn m mid between events replies after next
RunsOn m s x [] (reply ∷ replies) after next = ⊥
RunsOn m s x (event ∷ events) [] after next = ⊥
