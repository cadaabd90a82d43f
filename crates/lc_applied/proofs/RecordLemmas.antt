-- The record of some runs, and the part that it has of a segment.
use Rattle.std.proofs.Common.{◌≡◌, ℕ, ◌+◌, ◌≤◌, ◌==◌, true, false, if◌then◌else◌, List, [], ◌∷◌, length, map, filter, take, drop, refl, ap, subst, ◌∙◌, eqb-true}
use Rattle.std.specs.Prelude.{option_map}
use Rattle.lc_range.specs.RangeSet.{EndWithin}
use Rattle.lc_range.specs.declared.range.Range.{Range}
use Rattle.lc_record.specs.Part.{number_in, part_of}
use Rattle.lc_record.specs.declared.record.RangeData.{RangeData}
use Rattle.lc_tx.specs.Images.{bytes_of}
use Rattle.lc_tx.specs.Prepared.{run_data, runs_record}
use Rattle.lc_tx.specs.Walk.{AreInside}
use Rattle.lc_tx.specs.declared.images.Images.{Ghosts}
use Rattle.lc_applied.specs.AppliedParts.{part_of_runs, range_of_run, runs_of}

module _ {I : Type 0} (m : Ghosts I) (images : I) (segment : ℕ) where
  ranges-own : (runs : List Range) → filter (λ range. range.segment == segment) (map (run_data m images) runs) ≡ map (range_of_run (bytes_of m images segment)) (runs_of segment runs)
  ranges-own [] = refl
  ranges-own (run ∷ runs) =
      let rest : List RangeData = filter (λ range. range.segment == segment) (map (run_data m images) runs) in
      elim (run.segment == segment) as (λ b. (run.segment == segment) ≡ b → (if b then run_data m images run ∷ rest else rest) ≡ map (range_of_run (bytes_of m images segment)) (if b then run ∷ runs_of segment runs else runs_of segment runs)) [
        | true ↦ λ own.
            ap (λ (s : ℕ). record { segment = run.segment; offset = run.offset; bytes = take run.len (drop run.offset (bytes_of m images s)) } ∷ rest) (eqb-true run.segment segment own)
            ∙ ap (λ (l : List RangeData). range_of_run (bytes_of m images segment) run ∷ l) (ranges-own runs)
        | false ↦ λ other. ranges-own runs
      ] refl

  pub part-own : (runs : List Range) (node : ℕ) → part_of segment (runs_record m images runs node)
      ≡ option_map (λ seq. part_of_runs segment seq runs (bytes_of m images segment)) (number_in segment (runs_record m images runs node).locks)
  part-own runs node =
      ap (λ (l : List RangeData). option_map (λ seq. record { segment = segment; seq = seq; ranges = l }) (number_in segment (runs_record m images runs node).locks)) (ranges-own runs)

  pub ends-own : (runs : List Range) → AreInside m images runs → EndWithin (runs_of segment runs) (length (bytes_of m images segment))
  ends-own [] inside = tt
  ends-own (run ∷ runs) inside =
      elim (run.segment == segment) as (λ b. (run.segment == segment) ≡ b → EndWithin (if b then run ∷ runs_of segment runs else runs_of segment runs) (length (bytes_of m images segment))) [
        | true ↦ λ own. (subst (λ (s : ℕ). run.offset + run.len ≤ length (bytes_of m images s)) (eqb-true run.segment segment own) inside.0.1, ends-own runs inside.1)
        | false ↦ λ other. ends-own runs inside.1
      ] refl
