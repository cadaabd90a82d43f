use Rattle.std.proofs.Common.{◌≡◌, ℕ, ◌-◌, List, length, map}
use Rattle.lc_record.specs.declared.record.Record.{Record}
use Rattle.lc_log.proofs.WalkLemmas.{Found}
use Rattle.lc_journal.specs.Kept.{kept_behind}
use Rattle.lc_journal.proofs.records.Records.keep_all.Given as goal

abbrev pub invariant-loop-record : goal.invariant-loop-record
invariant-loop-record l = (found : List (ℕ × Record)) × Found l.words found l.place × (l.self ≡ kept_behind (map (λ x. x.1) found) l.initial.self)

abbrev pub decreases-loop-record : goal.decreases-loop-record
decreases-loop-record l = length l.words - l.place
