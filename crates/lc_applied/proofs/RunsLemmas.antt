-- Runs, and bytes that lie one after another.
use Rattle.std.proofs.Common.{◌≡◌, ℕ, zero, suc, ◌+◌, ◌≤◌, List, [], ◌∷◌, ◌++◌, length, map, take, drop, refl, ap, ◌∙◌, arith, length-append}
use Rattle.std.proofs.lemmas.List.{drop-append-le, drop_at, length-drop, length-take-le, take-append-le, take_all}
use Rattle.lc_range.specs.RangeSet.{EndWithin, total_len}
use Rattle.lc_range.specs.declared.range.Range.{Range}
use Rattle.lc_record.specs.declared.record.RangeData.{RangeData}
use Rattle.lc_applied.specs.AppliedParts.{range_of_run}
use Rattle.lc_applied.specs.AppliedPart.{bytes_of, ranges_of}

-- How many bytes

pub total-append : (xs ys : List Range) → total_len (xs ++ ys) ≡ total_len xs + total_len ys
total-append [] ys = omega arith
total-append (x ∷ xs) ys = omega (arith, total-append xs ys)

pub total-parts : (n : ℕ) (xs : List Range) → total_len (take n xs) + total_len (drop n xs) ≡ total_len xs
total-parts zero xs = omega arith
total-parts (suc n) [] = refl
total-parts (suc n) (x ∷ xs) = omega (arith, total-parts n xs)

-- what an image has in a run is as long as the run
pub length-in_run : (run : Range) (image : List ℕ) → run.offset + run.len ≤ length image → length (take run.len (drop run.offset image)) ≡ run.len
length-in_run run image within = length-take-le run.len (drop run.offset image) (omega (arith, length-drop run.offset image, within))

pub length-bytes_of : (runs : List Range) (image : List ℕ) → EndWithin runs (length image) → length (bytes_of runs image) ≡ total_len runs
length-bytes_of [] image within = refl
length-bytes_of (run ∷ runs) image within =
    let one = length-in_run run image within.0 in
    let rest = length-bytes_of runs image within.1 in
    let both = length-append (take run.len (drop run.offset image)) (bytes_of runs image) in
    omega (arith, one, rest, both)

-- Ranges of bytes that lie one after another

-- more bytes after them change nothing
pub ranges-front : (runs : List Range) (bytes more : List ℕ) → total_len runs ≤ length bytes → ranges_of runs (bytes ++ more) ≡ ranges_of runs bytes
ranges-front [] bytes more few = refl
ranges-front (run ∷ runs) bytes more few =
    let one : run.len ≤ length bytes = omega (arith, few) in
    let rest : total_len runs ≤ length (drop run.len bytes) = omega (arith, few, length-drop run.len bytes) in
    ap (λ (l : List ℕ). record { segment = run.segment; offset = run.offset; bytes = l } ∷ ranges_of runs (drop run.len (bytes ++ more))) (take-append-le run.len bytes more one)
    ∙ ap (λ (l : List ℕ). record { segment = run.segment; offset = run.offset; bytes = take run.len bytes } ∷ ranges_of runs l) (drop-append-le run.len bytes more one)
    ∙ ap (λ (l : List RangeData). record { segment = run.segment; offset = run.offset; bytes = take run.len bytes } ∷ l) (ranges-front runs (drop run.len bytes) more rest)

-- those of an image's bytes are those that a record has
pub ranges-of_image : (runs : List Range) (image : List ℕ) → EndWithin runs (length image) → ranges_of runs (bytes_of runs image) ≡ map (range_of_run image) runs
ranges-of_image [] image within = refl
ranges-of_image (run ∷ runs) image within =
    let own : List ℕ = take run.len (drop run.offset image) in
    let long : length own ≡ run.len = length-in_run run image within.0 in
    let front : take run.len (own ++ bytes_of runs image) ≡ own = take-append-le run.len own (bytes_of runs image) (omega (arith, long)) ∙ take_all run.len own (omega (arith, long)) in
    ap (λ (l : List ℕ). record { segment = run.segment; offset = run.offset; bytes = l } ∷ ranges_of runs (drop run.len (own ++ bytes_of runs image))) front
    ∙ ap (λ (l : List ℕ). record { segment = run.segment; offset = run.offset; bytes = own } ∷ ranges_of runs l) (drop_at own (bytes_of runs image) run.len long)
    ∙ ap (λ (l : List RangeData). record { segment = run.segment; offset = run.offset; bytes = own } ∷ l) (ranges-of_image runs image within.1)
