-- What the walks over segments and runs give.
use Rattle.std.specs.Prelude.{ℕ, ◌+◌, ◌^◌, ◌≤◌, nat_lt, nat_le, if◌then◌else◌, List, [], ◌∷◌, length, map, Option, Some, None, unwrap_or}
use Rattle.lc_range.specs.declared.range.Range.{Range}
use Rattle.lc_record.specs.Layout.{layout_of}
use Rattle.lc_record.specs.declared.layout.Layout.{Layout}
use Rattle.lc_record.specs.declared.span.Span.{Span}
use Rattle.lc_record.specs.declared.record.Lock.{Lock}
use Rattle.lc_tx.specs.declared.images.Images.{Ghosts}
use Rattle.lc_tx.specs.Images.{IsHere, bytes_of}
use Rattle.lc_tx.specs.Prepared.{with_number, segments_of, next_number}

-- ascending numbers with one more, once
abbrev pub with_in_order : ℕ → List ℕ → List ℕ
with_in_order n [] = n ∷ []
with_in_order n (next ∷ numbers) = if nat_lt next n then next ∷ with_in_order n numbers else with_number n (next ∷ numbers)

-- where a run stands
abbrev pub run_span : Range → Span
run_span run = record { segment = run.segment; offset = run.offset; len = run.len }

-- how a record of these runs is laid out
abbrev pub runs_layout : List Range → Layout
runs_layout runs = layout_of (length (segments_of runs)) (map run_span runs)

-- the segment of each run has a number from 1
abbrev pub AreFromOne : List Range → Type 0
AreFromOne [] = Unit {0}
AreFromOne (run ∷ runs) = (1 ≤ run.segment) × AreFromOne runs

module _ {I : Type 0} (m : Ghosts I) where
  -- the locks of a record of these runs
  abbrev pub locks_of : I → List Range → List Lock
  locks_of images runs = map (λ segment. record { segment = segment; seq = next_number m images segment }) (segments_of runs)

  -- the segment of the first run whose segment has used its last number
  abbrev pub spent_in : I → List Range → Option ℕ
  spent_in images [] = None
  spent_in images (run ∷ runs) =
      if nat_le (2 ^ 60) (unwrap_or (m.number_of images run.segment) 0) then Some run.segment else spent_in images runs

  -- the segment of each run is here, and has its bytes
  abbrev pub AreInside : I → List Range → Type 0
  AreInside images [] = Unit {0}
  AreInside images (run ∷ runs) =
      (IsHere m images run.segment × (run.offset + run.len ≤ length (bytes_of m images run.segment))) × AreInside images runs
