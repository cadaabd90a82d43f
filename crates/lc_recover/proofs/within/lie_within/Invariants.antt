use Rattle.std.proofs.Common.{ℕ, [], All}
use Rattle.lc_record.specs.declared.record.Record.{Record}
use Rattle.lc_model.specs.Merge.{IsOutside}
use Rattle.lc_recover.specs.Reading.{left_of, placed_in, store_of}
use Rattle.lc_recover.proofs.Walks.{Passed}
use Rattle.lc_recover.proofs.within.lie_within.Given as goal

abbrev pub invariant-loop-view : goal.invariant-loop-view
invariant-loop-view l = Passed (All (λ (x : ℕ × Record). IsOutside (store_of [] l.segments) x.1 → ⊥)) (placed_in l.words) (left_of l.view-iterator)
