-- Where a range goes among a set's runs.
use Rattle.std.specs.Prelude.{◌≡◌, ◌≤◌, true, false, List, ◌∷◌, ◌++◌, length, take, drop}
use Rattle.std.specs.List.Sorted.{IsPartitionPoint}
use Rattle.lc_range.specs.Walk.{is_before, merged}
use Rattle.lc_range.specs.declared.range.Range.{Range}
use Rattle.lc_range.specs.declared.touched.Touched.{Touched}

-- the runs in front of it lie before its range, those from there on do not, and with its run in the place of some they are
-- the runs with the range
pub record IsTouched (runs : List Range) (place : Touched) : Type 0 where
  pub ordered : place.start ≤ place.end
  pub within : place.end ≤ length runs
  pub before : IsPartitionPoint (λ run. is_before run place.range ≡ true) (λ run. is_before run place.range ≡ false) runs place.start
  pub added : take place.start runs ++ place.run ∷ drop place.end runs ≡ merged place.range runs
