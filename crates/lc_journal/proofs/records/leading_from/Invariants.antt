use Rattle.std.proofs.Common.{◌≡◌, ◌+◌, ◌-◌, ◌≤◌, map, length, drop}
use Rattle.lc_model.specs.History.{leading}
use Rattle.lc_journal.proofs.records.leading_from.Given as goal

abbrev pub invariant-loop-count : goal.invariant-loop-count
invariant-loop-count l =
    (l.count ≤ length l.places)
    × (l.count + leading (drop l.count (map (λ p. p.closed) l.places)) ≡ leading (map (λ p. p.closed) l.places))

abbrev pub decreases-loop-count : goal.decreases-loop-count
decreases-loop-count l = length l.places - l.count
