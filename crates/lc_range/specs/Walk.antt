-- What the walks over a set's runs give.
use Rattle.std.specs.Prelude.{ℕ, ◌+◌, ◌-◌, ◌==◌, nat_lt, nat_le, min, max, if◌then◌else◌, Bool, false, ◌&&◌, ◌||◌, List, [], ◌∷◌, ◌++◌}
use Rattle.lc_range.specs.declared.range.Range.{Range}

abbrev pub is_before : Range → Range → Bool
is_before a b = nat_lt a.segment b.segment || ((a.segment == b.segment) && nat_lt (a.offset + a.len) b.offset)

-- a range begins in the segment of another, right where that ends
abbrev pub is_continued : Range → Range → Bool
is_continued a b = (a.segment == b.segment) && (a.offset + a.len == b.offset)

abbrev pub is_holding : Range → Range → Bool
is_holding a b = ((a.segment == b.segment) && nat_le a.offset b.offset) && nat_le (b.offset + b.len) (a.offset + a.len)

-- the least range with the positions of both
abbrev pub joined : Range → Range → Range
joined a b = record {
  segment = a.segment;
  offset = min a.offset b.offset;
  len = max (a.offset + a.len) (b.offset + b.len) - min a.offset b.offset;
}

-- these runs with one more in front, joined to those that it touches
abbrev pub absorbed : Range → List Range → List Range
absorbed run [] = run ∷ []
absorbed run (next ∷ runs) = if is_before run next then run ∷ next ∷ runs else absorbed (joined run next) runs

-- these runs with a range more
abbrev pub merged : Range → List Range → List Range
merged range [] = absorbed range []
merged range (run ∷ runs) = if is_before run range then run ∷ merged range runs else absorbed range (run ∷ runs)

-- some run has each position of a range
abbrev pub some_holds : List Range → Range → Bool
some_holds [] range = false
some_holds (run ∷ runs) range = is_holding run range || some_holds runs range

-- positions of a segment from one on up to another
abbrev pub piece : ℕ → ℕ → ℕ → List Range
piece segment from to = if nat_lt from to then record { segment = segment; offset = from; len = to - from } ∷ [] else []

-- whether a run has positions of the segment from one on up to another
abbrev pub is_in_way : Range → ℕ → ℕ → ℕ → Bool
is_in_way run segment from to = ((run.segment == segment) && nat_lt run.offset to) && nat_lt from (run.offset + run.len)

-- the parts of these positions that no run has
abbrev pub parts : ℕ → ℕ → ℕ → List Range → List Range
parts segment from to [] = piece segment from to
parts segment from to (run ∷ runs) =
    if is_in_way run segment from to then piece segment from run.offset ++ parts segment (run.offset + run.len) to runs
    else parts segment from to runs

-- the parts of a range that no run has
abbrev pub parts_of : Range → List Range → List Range
parts_of range runs = parts range.segment range.offset (range.offset + range.len) runs
