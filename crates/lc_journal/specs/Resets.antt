-- What the first step of a reset asks of a log's records.
use Rattle.std.specs.Prelude.{◌≡◌, ◌≤◌, ◌⊎◌, ℕ, Option, None}
use Rattle.lc_disk.specs.declared.area.Area.{Ghosts}
use Rattle.lc_token.specs.declared.unclean.Unclean.{Unclean}
use Rattle.lc_model.specs.Machine.{Row, halting}
use Rattle.lc_model.specs.Refusals.{common_refusal}
use Rattle.lc_model.specs.Sound.{Sound}
use Rattle.lc_model.specs.State.{Setting, State}
use Rattle.lc_model.specs.declared.event.Event.TheVariants.{ResetStep}
use Rattle.lc_model.specs.declared.reply.Reply.{Reply}
use Rattle.lc_journal.specs.Follows.{FitsJournal}
use Rattle.lc_settled.specs.Numbers.{Numbers, stable_records}
use Rattle.lc_settled.specs.Settled.{Settled, least_unclean, locks_in}
use Rattle.lc_settled.specs.Turns.{Turns}
use Rattle.lc_journal.specs.declared.journal.Journal.{Journal}

-- these numbers are what the node knows as clean of each segment
abbrev pub Knows : Setting → ℕ → Numbers → (ℕ → ℕ) → Type 0
Knows m node x known = (segment : ℕ) → 1 ≤ segment → segment ≤ m.geometry.segments → known segment ≡ x.known node segment

module _ {D : Type 0} (a : Ghosts D) where
  -- of the locks of the stable records it is the least that is above what the node knows, in each state and with the numbers
  -- that the journal fits
  abbrev pub IsLeastUnclean : Journal D a → (ℕ → ℕ) → Option Unclean → Type 0
  IsLeastUnclean w known least =
      (m : Setting) (node : ℕ) (s : State) (x : Numbers) → Sound m.geometry s → FitsJournal a m node w s x → Knows m node x known
      → least ≡ least_unclean (x.known node) (locks_in (stable_records m s x node))

  -- from a state and numbers that it fits to others: the reply is settled, and one that the row allows; the state is as it was,
  -- or the node is halted
  pub record GoesOnReset (m : Setting) (node : ℕ) (s : State) (x : Numbers) (reply : Reply) (new : Journal D a) : Type 0 where
    pub after : State
    pub next : Numbers
    pub row : Row m s (ResetStep node) reply after
    pub settled : Settled m s x (ResetStep node) reply
    pub turns : Turns m s x (ResetStep node) reply next
    pub same : (after ≡ s) ⊎ (after ≡ halting s node)
    pub fits : FitsJournal a m node new after next
    pub round : new.round ≡ next.round node

  -- whatever sound state and numbers it fits where nothing refuses the event at once, the log is in its round, and the node
  -- knows this as clean
  abbrev pub FollowsReset : ℕ → (ℕ → ℕ) → Journal D a → Reply → Journal D a → Type 0
  FollowsReset node known old reply new =
      (m : Setting) (s : State) (x : Numbers) → Sound m.geometry s → common_refusal m.geometry s (ResetStep node) ≡ None → FitsJournal a m node old s x
      → old.round ≡ x.round node → Knows m node x known → GoesOnReset m node s x reply new
