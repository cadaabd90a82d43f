use Rattle.std.proofs.Common.{◌≡◌, ℕ, ◌-◌, ◌++◌, List, length, map}
use Rattle.lc_record.specs.declared.record.Record.{Record}
use Rattle.lc_log.proofs.WalkLemmas.{Found}
use Rattle.lc_reading.proofs.node_records.read_records.Given as goal

abbrev pub invariant-loop-record : goal.invariant-loop-record
invariant-loop-record l = (found : List (ℕ × Record)) × Found l.words found l.place × (l.records.items ≡ l.initial.records.items ++ map (λ x. x.1) found)

abbrev pub decreases-loop-record : goal.decreases-loop-record
decreases-loop-record l = length l.words - l.place
