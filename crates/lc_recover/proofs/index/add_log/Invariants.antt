use Rattle.std.proofs.Common.{ℕ, List, ◌++◌, map}
use Rattle.lc_record.specs.declared.record.Record.{Record}
use Rattle.lc_recover.specs.Pages.{kept_pages}
use Rattle.lc_recover.specs.Changes.{PlacedRecord, AreOf, seat}
use Rattle.lc_recover.specs.Reading.{left_of, placed_in}
use Rattle.lc_recover.proofs.Walks.{Passed}
use Rattle.lc_recover.proofs.index.add_log.Given as goal

abbrev pub invariant-loop-place : goal.invariant-loop-place
invariant-loop-place l =
    Passed (λ (seen : List (ℕ × Record)). (seats : List PlacedRecord) → AreOf (map kept_pages l.segments) seats l.initial.changes.items →
    AreOf (map kept_pages l.segments) (seats ++ map (λ (x : ℕ × Record). seat l.log x.0 x.1) seen) l.changes.items) (placed_in l.words) (left_of l.place-iterator)
