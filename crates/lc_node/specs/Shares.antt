-- Which tokens stand at a node as a store comes up, and the areas that go with them.
use Rattle.std.specs.Prelude.{◌≡◌, ℕ, ◌+◌, ◌%◌, ◌<◌, ◌==◌, nat_lt, Bool, if◌then◌else◌, List, Option, None, Some, option_map, slice_get}
use Rattle.lc_recover.specs.Recovered.{RecoveredStore}

-- of so many nodes, the one of this number has the token of the segment
abbrev pub has_token : ℕ → ℕ → ℕ → Bool
has_token number nodes segment = segment % nodes == number

module _ {D : Type 0} where
  -- each of these is the area of the log that has its number
  abbrev pub AreLogs : RecoveredStore D → List D → Type 0
  AreLogs r logs = (node : ℕ) (area : D) → slice_get logs node ≡ Some area → slice_get r.areas node ≡ Some area

  -- the area of each segment stands at its place
  abbrev pub ArePages : RecoveredStore D → List (Option D) → Type 0
  ArePages r pages = (place : ℕ) → place < r.geometry.segments → slice_get pages place ≡ Some (slice_get r.areas (r.geometry.nodes + place))

  -- what this node takes at the place of a segment's area: the area, if it has the segment's token
  abbrev pub taken_at : ℕ → ℕ → ℕ → Option D → Option D
  taken_at number nodes place area = if has_token number nodes (place + 1) then area else None

  -- what it leaves there: nothing, if it has the token
  abbrev pub left_at : ℕ → ℕ → ℕ → Option D → Option D
  left_at number nodes place area = if has_token number nodes (place + 1) then None else area

  -- so it does at each place
  abbrev pub AreShared : ℕ → ℕ → List (Option D) → List (Option D) → Type 0
  AreShared number nodes old new = (place : ℕ) → slice_get new place ≡ option_map (left_at number nodes place) (slice_get old place)

  -- where the nodes below this number have taken theirs, of so many, the areas of the others' segments stand at their places
  abbrev pub AreRest : RecoveredStore D → ℕ → ℕ → List (Option D) → Type 0
  AreRest r number nodes pages =
      (place : ℕ) → place < r.geometry.segments → slice_get pages place ≡ Some (if nat_lt ((place + 1) % nodes) number then None else slice_get r.areas (r.geometry.nodes + place))

  -- no area stands at a place any more
  abbrev pub AreAllTaken : List (Option D) → Type 0
  AreAllTaken places = (place : ℕ) (area : D) → slice_get places place ≡ Some (Some area) → ⊥
