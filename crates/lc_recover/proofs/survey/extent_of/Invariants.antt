use Rattle.std.proofs.Common.{◌≡◌, ℕ, List, length, map}
use Rattle.lc_record.specs.declared.record.Record.{Record}
use Rattle.lc_log.specs.LogText.{joined}
use Rattle.lc_recover.specs.Reading.{left_of, placed_in}
use Rattle.lc_recover.proofs.Walks.{Passed}
use Rattle.lc_recover.proofs.survey.extent_of.Given as goal

abbrev pub invariant-loop-place : goal.invariant-loop-place
invariant-loop-place l =
    Passed (λ (seen : List (ℕ × Record)). (l.extent.records ≡ length seen) × (l.extent.words ≡ length (joined (map (λ (x : ℕ × Record). x.1) seen)))) (placed_in l.words) (left_of l.place-iterator)
