-- What a record says of one segment.
use Rattle.std.specs.Prelude.{ℕ, ◌==◌, List, [], ◌∷◌, filter, option_map, Option, Some, None, if◌then◌else◌}
use Rattle.lc_record.specs.declared.record.Record.{Record}
use Rattle.lc_record.specs.declared.record.Lock.{Lock}
use Rattle.lc_record.specs.declared.part.Part.{Part}

-- the number of the lock on a segment
abbrev pub number_in : ℕ → List Lock → Option ℕ
number_in segment [] = None
number_in segment (lock ∷ locks) = if lock.segment == segment then Some lock.seq else number_in segment locks

-- the part of a record that is of this segment, if it has a lock on it
abbrev pub part_of : ℕ → Record → Option Part
part_of segment r =
    option_map (λ seq. record { segment = segment; seq = seq; ranges = filter (λ range. range.segment == segment) r.ranges })
    (number_in segment r.locks)
