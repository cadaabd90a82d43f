-- What a peer's record makes of a segment whose token is elsewhere.
use Rattle.std.specs.Prelude.{◌+◌, ◌++◌, ◌∷◌, List, length}
use Rattle.lc_record.specs.declared.part.Part.{Part}
use Rattle.lc_token.specs.Backlog.{Backlog, counted, rest_of, run_of}
use Rattle.lc_segments.specs.SegView.{SegView}

-- the parts that are held back, and follow on what is applied without a hole
abbrev pub ready_in : Backlog → List Part
ready_in backlog = run_of backlog.applied backlog.kept

-- these are applied
abbrev pub caught_up : Backlog → Backlog
caught_up backlog = record backlog {
  applied = backlog.applied + length (ready_in backlog);
  kept = rest_of backlog.applied backlog.kept;
}

module _ {D : Type 0} where
  -- a part with the next number is applied, and then those that are held back and follow on it
  abbrev pub applying : Part → SegView D → SegView D
  applying part s = record s {
    applied = s.applied ++ part ∷ ready_in (counted s.backlog part.seq);
    backlog = caught_up (counted s.backlog part.seq);
  }
