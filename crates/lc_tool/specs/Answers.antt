-- How the machine and the numbers beside it go on with an event, and with the same event again and again.
use Rattle.std.specs.Prelude.{◌≡◌, ℕ, List, [], ◌∷◌}
use Rattle.lc_model.specs.Machine.{Step}
use Rattle.lc_model.specs.State.{Setting, State}
use Rattle.lc_model.specs.declared.event.Event.{Event}
use Rattle.lc_model.specs.declared.event.Event.TheVariants.{Close}
use Rattle.lc_model.specs.declared.reply.Reply.{Reply}
use Rattle.lc_model.specs.declared.reply.Reply.TheVariants.{Ok as Accepted, Reserved, Stepped}
use Rattle.lc_settled.specs.Numbers.{Numbers}
use Rattle.lc_settled.specs.Settled.{Settled}
use Rattle.lc_settled.specs.Turns.{Turns}

-- a step of the machine under this reply, which is settled, and the numbers after it
pub record Answers (m : Setting) (s : State) (x : Numbers) (event : Event) (reply : Reply) (after : State) (next : Numbers) : Type 0 where
  pub step : Step m s event reply after
  pub settled : Settled m s x event reply
  pub turns : Turns m s x event reply next

-- after the reply to a reservation: where it was made it is closed
abbrev pub Ends : Setting → State → Numbers → ℕ → ℕ → Reply → State → Numbers → Type 0
Ends m s x node thread (Reserved place words) after next = Answers m s x (Close node thread) Accepted after next
Ends m s x node thread reply after next = (after ≡ s) × (next ≡ x)

-- the same event, each time answered that so many steps are done and more are to come
abbrev pub GoesOnWith : Setting → State → Numbers → Event → List ℕ → State → Numbers → Type 0
GoesOnWith m s x event [] after next = (after ≡ s) × (next ≡ x)
GoesOnWith m s x event (steps ∷ later) after next =
    (mid : State) × (between : Numbers) × Answers m s x event (Stepped steps) mid between × GoesOnWith m mid between event later after next

abbrev pub IsStepped : Reply → Type 0
IsStepped (Stepped steps) = Unit {0}
IsStepped reply = ⊥

-- until it is answered otherwise
pub record Finishes (m : Setting) (s : State) (x : Numbers) (event : Event) (reply : Reply) (after : State) (next : Numbers) : Type 0 where
  pub steps : List ℕ
  pub mid : State
  pub between : Numbers
  pub before : GoesOnWith m s x event steps mid between
  pub last : Answers m mid between event reply after next
  pub over : IsStepped reply → ⊥
