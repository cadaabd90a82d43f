-- The record of a transaction is of the runs that it set.
use Rattle.std.proofs.Common.{◌≡◌, ℕ, List, [], ◌∷◌, length, map, take, drop, refl, ap, ◌∙◌, arith}
use Rattle.std.proofs.lemmas.List.{length-drop, length-map, length-take-le}
use Rattle.lc_record.specs.Record.{IsRecord}
use Rattle.lc_record.specs.declared.record.Lock.{Lock}
use Rattle.lc_range.specs.RangeSet.{IsCanonical}
use Rattle.lc_range.specs.declared.range.Range.{Range}
use Rattle.lc_tx.specs.Images.{bytes_of}
use Rattle.lc_tx.specs.Prepared.{final_record, next_number, run_data, segments_of}
use Rattle.lc_tx.specs.Tx.{RunsOn}
use Rattle.lc_tx.specs.Walk.{AreInside}
use Rattle.lc_tx.specs.declared.images.Images.{Ghosts}
use Rattle.lc_tx.specs.declared.tx.Tx.{Tx}
use Rattle.lc_tx.proofs.RecordLemmas.{inside_from}
use Rattle.lc_segments.specs.Ran.{IsOfRuns, run_of}

module _ {I : Type 0} (m : Ghosts I) (images : I) where
  runs_are : (runs : List Range) → AreInside m images runs → map run_of (map (run_data m images) runs) ≡ runs
  runs_are [] inside = refl
  runs_are (run ∷ runs) inside =
      let bytes = bytes_of m images run.segment in
      let long : length (take run.len (drop run.offset bytes)) ≡ run.len = length-take-le run.len (drop run.offset bytes) (omega (arith, length-drop run.offset bytes, inside.0.1)) in
      ap (λ (n : ℕ). record { segment = run.segment; offset = run.offset; len = n } ∷ map run_of (map (run_data m images) runs)) long
      ∙ ap (λ (l : List Range). run ∷ l) (runs_are runs inside.1)

  locks_are : (segments : List ℕ) → map (λ (lock : Lock). lock.segment) (map (λ segment. record { segment = segment; seq = next_number m images segment }) segments) ≡ segments
  locks_are [] = refl
  locks_are (s ∷ segments) = ap (λ (l : List ℕ). s ∷ l) (locks_are segments)

  pub of_runs : (tx : Tx) (node : ℕ) (words : List ℕ) → RunsOn m images tx → IsCanonical tx.set → IsRecord (final_record m images tx node) words → IsOfRuns tx.set (final_record m images tx node)
  of_runs tx node words on canonical is = record {
    some = λ none.
        let as_many : length (map (run_data m images) tx.set) ≡ length tx.set = length-map tx.set (run_data m images) in
        let no_run : length tx.set ≡ 0 = ap (λ (l : List Range). length l) none in
        omega (arith, is.canonical.some_ranges, as_many, no_run);
    canonical = canonical;
    ranges = runs_are tx.set (inside_from m images tx.set canonical (λ s k has. (on.here s (on.set_locked s k has), on.set_inside s k has)));
    locks = locks_are (segments_of tx.set);
  }
