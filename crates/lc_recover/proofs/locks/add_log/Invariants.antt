use Rattle.std.proofs.Common.{◌≡◌, ◌++◌, ℕ, List, map, vec_capacity}
use Rattle.lc_record.specs.declared.record.Record.{Record}
use Rattle.lc_recover.specs.Locks.{numbers_in}
use Rattle.lc_recover.specs.Reading.{left_of, placed_in}
use Rattle.lc_recover.proofs.Walks.{Passed}
use Rattle.lc_recover.proofs.locks.add_log.Given as goal

abbrev pub invariant-loop-record : goal.invariant-loop-record
invariant-loop-record l =
    Passed (λ (seen : List (ℕ × Record)). (l.numbers.items ≡ l.initial.numbers.items ++ numbers_in (map (λ (x : ℕ × Record). x.1) seen)) × (vec_capacity l.numbers ≡ vec_capacity l.initial.numbers))
    (placed_in l.words) (left_of l.record-iterator)
