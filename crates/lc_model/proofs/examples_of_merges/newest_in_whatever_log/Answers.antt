use Rattle.std.proofs.Common.{◌≡◌, ◌≤◌, ◌<◌, refl, inr, sym, subst, true≢false, arith, lit<, lit≤}
use Rattle.std.proofs.Common.{Some}
use Rattle.lc_model.specs.Merge.{how_many}
use Rattle.lc_model.specs.ExamplesOfMerges.{crossed, first_byte}
use Rattle.lc_model.proofs.TwoRecords.{below_two, gap_below, newest_of, not_by_number}
use Rattle.lc_model.proofs.examples_of_merges.newest_in_whatever_log.Goals as goal

pub returns-clause-later : goal.returns-clause-later
returns-clause-later c = inr ((first_byte 0 2 12), record { among = (0, lit< tt, refl); has = refl; is = refl; greatest = newest_of 1 0 0 (first_byte 0 2 12) (first_byte 0 2 12) (first_byte 1 1 11) (λ has. lit≤ tt) (λ has. lit≤ tt) })

pub returns-clause-not_the_earlier : goal.returns-clause-not_the_earlier
returns-clause-not_the_earlier c = not_by_number 1 0 0 (first_byte 0 2 12) (first_byte 1 1 11) (Some 7) (Some 11) (λ all is. absurd (let e : Some 11 ≡ Some 7 = is in cc)) (λ has is newest. absurd (let e : Some 11 ≡ Some 12 = is in cc)) (λ has is newest. (let most : 2 ≤ 1 = newest 0 (first_byte 0 2 12) (lit< tt) refl in absurd (omega (arith, most))))

pub returns-clause-not_the_page : goal.returns-clause-not_the_page
returns-clause-not_the_page c = not_by_number 1 0 0 (first_byte 0 2 12) (first_byte 1 1 11) (Some 7) (Some 7) (λ all is. true≢false (all 0 (first_byte 0 2 12) (lit< tt))) (λ has is newest. absurd (let e : Some 7 ≡ Some 12 = is in cc)) (λ has is newest. absurd (let e : Some 7 ≡ Some 11 = is in cc))

pub returns-clause-no_gap : goal.returns-clause-no_gap
returns-clause-no_gap c = λ seq gap. let low : seq < 2 = gap_below crossed 1 2 seq (below_two 1 2 (first_byte 0 2 12) (first_byte 1 1 11) (lit≤ tt) (lit≤ tt)) gap in let up : 0 < seq = gap.0 in absurd (let one : 1 ≡ seq = omega (arith, low, up) in let many : how_many 1 1 crossed ≡ 0 = subst (λ n. how_many 1 n crossed ≡ 0) (sym one) gap.1 in let is : 1 ≡ 0 = many in omega (arith, is))
