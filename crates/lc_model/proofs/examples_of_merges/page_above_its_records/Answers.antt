use Rattle.std.proofs.Common.{◌≡◌, ◌≤◌, ◌<◌, ◌∷◌, [], refl, inl, inr, sym, ap, true≢false, arith, lit<, lit≤}
use Rattle.std.proofs.Common.{◌+◌, Some, is_some, slice_get}
use Rattle.lc_record.specs.Newest.{byte_of}
use Rattle.lc_model.specs.ExamplesOfMerges.{above, first_byte, byte_range}
use Rattle.std.proofs.Common.{◌*◌, ap}
use Rattle.std.proofs.Math.Bool.{and-false}
use Rattle.lc_model.proofs.TwoRecords.{below_two, gap_below, none_of, newest_of, not_by_number}
use Rattle.lc_model.proofs.examples_of_merges.page_above_its_records.Goals as goal

pub returns-clause-no_gap : goal.returns-clause-no_gap
returns-clause-no_gap c = λ seq gap. let low : seq < 2 = gap_below above 1 2 seq (below_two 1 2 (first_byte 0 1 11) (first_byte 0 2 12) (lit≤ tt) (lit≤ tt)) gap in let up : 5 < seq = gap.0 in absurd (omega (arith, low, up))

pub returns-clause-not_twice : goal.returns-clause-not_twice
returns-clause-not_twice c = λ both. (let is : 2 ≤ 1 = both.1 in absurd (omega (arith, is)))

pub returns-clause-stands : goal.returns-clause-stands
returns-clause-stands c = λ offset lt. inl (none_of 1 (0 * 256 + offset) 5 (first_byte 0 1 11) (first_byte 0 2 12) (and-false (is_some (byte_of 1 (0 * 256 + offset) (byte_range 1 0 11 ∷ [])))) (and-false (is_some (byte_of 1 (0 * 256 + offset) (byte_range 1 0 12 ∷ [])))), (let e : 0 * 256 + offset ≡ offset = omega arith in ap (λ n. slice_get (7 ∷ 8 ∷ []) n) e))

pub returns-clause-not_the_records : goal.returns-clause-not_the_records
returns-clause-not_the_records c = λ has. not_by_number 1 0 5 (first_byte 0 1 11) (first_byte 0 2 12) (Some 7) (Some 12) (λ all is. absurd (let e : Some 12 ≡ Some 7 = is in cc)) (λ has is newest. true≢false (sym has)) (λ has is newest. true≢false (sym has)) (has 0 (lit< tt))

pub returns-clause-numbered : goal.returns-clause-numbered
returns-clause-numbered c = refl

pub returns-clause-under_a_lower_page : goal.returns-clause-under_a_lower_page
returns-clause-under_a_lower_page c = inr ((first_byte 0 2 12), record { among = (1, lit< tt, refl); has = refl; is = refl; greatest = newest_of 1 0 1 (first_byte 0 2 12) (first_byte 0 1 11) (first_byte 0 2 12) (λ has. lit≤ tt) (λ has. lit≤ tt) })
