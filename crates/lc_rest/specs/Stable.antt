-- What of a segment is stable.
use Rattle.std.specs.Prelude.{ℕ, ◌+◌, nat_le, List, [], ◌∷◌, drop, take, slice_index_or, if◌then◌else◌}
use Rattle.lc_record.specs.Newest.{number_or_zero}
use Rattle.lc_record.specs.declared.record.Record.{Record}
use Rattle.lc_rest.specs.Replay.{laid_on}
use Rattle.lc_rest.specs.TokenTest.{count_log}

-- how many of a segment's records are stable, in logs of which so many each are
abbrev pub stable_count : ℕ → List (List Record) → List ℕ → ℕ
stable_count segment [] counts = 0
stable_count segment (log ∷ logs) counts = count_log segment (take (slice_index_or counts 0 0) log) + stable_count segment logs (drop 1 counts)

-- the bytes of a segment with those of a record put on that is not above a number
abbrev pub up_to_on : ℕ → ℕ → Record → List ℕ → List ℕ
up_to_on segment number r bytes = if nat_le (number_or_zero segment r.locks) number then laid_on segment r.ranges bytes else bytes

-- and of all that are not
abbrev pub bytes_up_to : ℕ → ℕ → List Record → List ℕ → List ℕ
bytes_up_to segment number [] bytes = bytes
bytes_up_to segment number (r ∷ rs) bytes = bytes_up_to segment number rs (up_to_on segment number r bytes)
