use Rattle.std.proofs.Common.{◌≡◌, ◌-◌, ◌≤◌, ℕ, take, drop}
use Rattle.lc_model.specs.State.{Setting, State}
use Rattle.lc_model.specs.Stored.{records_of}
use Rattle.lc_token.specs.KnownClean.{known as known_of}
use Rattle.lc_journal.specs.Follows.{FitsJournal}
use Rattle.lc_settled.specs.Numbers.{Numbers}
use Rattle.lc_settled.specs.Settled.{least_unclean, locks_in}
use Rattle.lc_journal.proofs.journal.Journal.least_unclean.Given as goal

abbrev pub invariant-loop-number : goal.invariant-loop-number
invariant-loop-number g l =
    (l.self.dropped ≤ l.number) × (l.number ≤ l.self.acked)
    × ((m : Setting) (node : ℕ) (s : State) (x : Numbers) → FitsJournal g.D.Area m node l.self s x
    → l.least ≡ least_unclean (known_of l.known) (locks_in (drop l.number (take l.self.acked (records_of m s x.disks node)))))

abbrev pub decreases-loop-number : goal.decreases-loop-number
decreases-loop-number g l = l.number - l.self.dropped
