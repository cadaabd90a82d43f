use Rattle.std.proofs.Common.{ℕ, List, length, ◌-◌}
use Rattle.lc_record.specs.declared.record.Record.{Record}
use Rattle.lc_log.proofs.WalkLemmas.{Found}
use Rattle.lc_log.proofs.walking.text_len.Given as goal

abbrev pub invariant-loop-record : goal.invariant-loop-record
invariant-loop-record l = (found : List (ℕ × Record)) × Found l.words found l.end

abbrev pub decreases-loop-record : goal.decreases-loop-record
decreases-loop-record l = length l.words - l.end
