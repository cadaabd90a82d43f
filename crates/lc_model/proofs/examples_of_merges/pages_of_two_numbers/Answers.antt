use Rattle.std.proofs.Common.{◌≡◌, ◌<◌, refl, inl, inr, sym, true≢false, arith, lit<, lit≤}
use Rattle.std.proofs.Common.{Some}
use Rattle.lc_model.specs.ExamplesOfMerges.{uneven, the_second, the_fourth}
use Rattle.lc_model.proofs.TwoRecords.{below_two, gap_below, none_of, newest_of, not_by_number}
use Rattle.lc_model.proofs.examples_of_merges.pages_of_two_numbers.Goals as goal

pub returns-clause-first_takes_the_second : goal.returns-clause-first_takes_the_second
returns-clause-first_takes_the_second c = inr (the_second, record { among = (0, lit< tt, refl); has = refl; is = refl; greatest = newest_of 1 0 1 the_second the_second the_fourth (λ has. lit≤ tt) (λ has. absurd (true≢false (sym has))) })

pub returns-clause-first_keeps_not : goal.returns-clause-first_keeps_not
returns-clause-first_keeps_not c = not_by_number 1 0 1 the_second the_fourth (Some 7) (Some 7) (λ all is. true≢false (all 0 the_second (lit< tt))) (λ has is newest. absurd (let e : Some 7 ≡ Some 12 = is in cc)) (λ has is newest. true≢false (sym has))

pub returns-clause-first_takes_the_fourth : goal.returns-clause-first_takes_the_fourth
returns-clause-first_takes_the_fourth c = inr (the_fourth, record { among = (1, lit< tt, refl); has = refl; is = refl; greatest = newest_of 1 1 1 the_fourth the_second the_fourth (λ has. lit≤ tt) (λ has. lit≤ tt) })

pub returns-clause-second_keeps : goal.returns-clause-second_keeps
returns-clause-second_keeps c = inl (none_of 1 256 3 the_second the_fourth refl refl, refl)

pub returns-clause-second_takes_not : goal.returns-clause-second_takes_not
returns-clause-second_takes_not c = not_by_number 1 256 3 the_second the_fourth (Some 7) (Some 22) (λ all is. absurd (let e : Some 22 ≡ Some 7 = is in cc)) (λ has is newest. true≢false (sym has)) (λ has is newest. true≢false (sym has))

pub returns-clause-second_takes_the_fourth : goal.returns-clause-second_takes_the_fourth
returns-clause-second_takes_the_fourth c = inr (the_fourth, record { among = (1, lit< tt, refl); has = refl; is = refl; greatest = newest_of 1 257 3 the_fourth the_second the_fourth (λ has. lit≤ tt) (λ has. lit≤ tt) })

pub returns-clause-second_keeps_not : goal.returns-clause-second_keeps_not
returns-clause-second_keeps_not c = not_by_number 1 257 3 the_second the_fourth (Some 8) (Some 8) (λ all is. true≢false (all 1 the_fourth (lit< tt))) (λ has is newest. true≢false (sym has)) (λ has is newest. absurd (let e : Some 8 ≡ Some 24 = is in cc))

pub returns-clause-no_gap : goal.returns-clause-no_gap
returns-clause-no_gap c = λ seq gap. let low : seq < 4 = gap_below uneven 1 4 seq (below_two 1 4 the_second the_fourth (lit≤ tt) (lit≤ tt)) gap in let up : 3 < seq = gap.0 in absurd (omega (arith, low, up))
