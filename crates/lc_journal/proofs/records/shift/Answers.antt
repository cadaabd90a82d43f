use Rattle.std.proofs.Common.{◌≡◌, ℕ, ◌+◌, ◌-◌, ◌<◌, ◌++◌, List, map, length, take, drop, ap, arith, ◌∙◌, false, slice_index_or}
use Rattle.std.proofs.lemmas.List.{length-map, length-take-le, get_or-append_right, get_or-drop, get_or_default}
use Rattle.std.proofs.lemmas.List.Edits.{map_over_more}
use Rattle.lc_journal.specs.declared.record_end.RecordEnd.{RecordEnd}
use Rattle.lc_journal.specs.Records.{shifted}
use Rattle.lc_journal.proofs.records.shift.Goals as goal

-- after those that are done stand those of before
behind : (f : RecordEnd → RecordEnd) (xs ys : List RecordEnd) (i : ℕ) (d : RecordEnd) → i < length xs → ys ≡ map f (take i xs) ++ drop i xs → slice_index_or ys i d ≡ slice_index_or xs i d
behind f xs ys i d within is =
    let count : length (map f (take i xs)) ≡ i = length-map (take i xs) f ∙ length-take-le i xs (omega (arith, within)) in
    let same : i + (i - i) ≡ i = omega arith in
    ap (λ (l : List RecordEnd). slice_index_or l i d) is
    ∙ get_or-append_right (map f (take i xs)) (drop i xs) i i d count (omega arith)
    ∙ get_or-drop i xs (i - i) d
    ∙ ap (λ (k : ℕ). slice_index_or xs k d) same

pub overflow_sub-place : goal.overflow_sub-place
overflow_sub-place c =
    let d : RecordEnd = record { end = 0; closed = false } in
    let same = ap (λ (p : RecordEnd). p.end) (behind (shifted c.args.cut) c.args.places.now c.loop-place.places c.loop-place.place-index d c.loop-place-test.true c.loop-place.invariant) in
    omega (arith, same, c.requires c.loop-place.place-index d c.loop-place-test.true)

pub loop-place-preserved : goal.loop-place-preserved
loop-place-preserved c =
    let d : RecordEnd = record { end = 0; closed = false } in
    let x : RecordEnd = slice_index_or c.loop-place.places c.loop-place.place-index d in
    map_over_more (shifted c.args.cut) c.args.places.now c.loop-place.places c.loop-place.place-index x c.loop-place-test.true c.loop-place.invariant
    (get_or_default c.loop-place.places c.loop-place.place-index d x (omega (arith, c.loop-place.auto.places, c.loop-place-test.true)))
