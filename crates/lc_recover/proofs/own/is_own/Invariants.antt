use Rattle.std.proofs.Common.{◌≡◌, All, ℕ}
use Rattle.lc_record.specs.declared.record.Record.{Record}
use Rattle.lc_recover.specs.Reading.{left_of, placed_in}
use Rattle.lc_recover.proofs.Walks.{Passed}
use Rattle.lc_recover.proofs.own.is_own.Given as goal

abbrev pub invariant-loop-record : goal.invariant-loop-record
invariant-loop-record l = Passed (All (λ (x : ℕ × Record). x.1.node ≡ l.node)) (placed_in l.words) (left_of l.record-iterator)
