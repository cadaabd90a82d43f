-- What is tested of the numbers that records have of a segment.
use Rattle.std.specs.Prelude.{◌≡◌, ℕ, ◌+◌, ◌<◌, ◌≤◌, Bool, List, [], ◌∷◌, ◌++◌, length, filter, All, Some, slice_index_or, if◌then◌else◌}
use Rattle.std.specs.Global.{Vec}
use Rattle.lc_record.specs.Part.{number_in}
use Rattle.lc_record.specs.declared.record.Record.{Record}
use Rattle.lc_model.specs.Merge.{has_number}

-- the records of all logs
abbrev pub joined_logs : List (Vec Record) → List Record
joined_logs [] = []
joined_logs (log ∷ logs) = log.items ++ joined_logs logs

-- how many of these records have this number of the segment
abbrev pub how_many : ℕ → ℕ → List Record → ℕ
how_many segment number rs = length (filter (has_number segment number) rs)

-- the record's number of the segment, if it has one, is above the first and not above the last
abbrev pub IsBetween : ℕ → ℕ → ℕ → Record → Type 0
IsBetween segment first last r = (number : ℕ) → number_in segment r.locks ≡ Some number → (first < number) × (number ≤ last)

-- these records have the segment's numbers above the first up to the last, each once
pub record AreNumbered (segment first last : ℕ) (rs : List Record) : Type 0 where
  pub between : All (IsBetween segment first last) rs
  pub once : (number : ℕ) → first < number → number ≤ last → how_many segment number rs ≡ 1

-- of the numbers above the first those that a record of these has are marked, and each of them stands once
pub record AreMarked (segment first : ℕ) (rs : List Record) (marks : List Bool) : Type 0 where
  pub between : All (IsBetween segment first (first + length marks)) rs
  pub each : (place : ℕ) (d : Bool) → place < length marks → how_many segment (first + 1 + place) rs ≡ (if slice_index_or marks place d then 1 else 0)
