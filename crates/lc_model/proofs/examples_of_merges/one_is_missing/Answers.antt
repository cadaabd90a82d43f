use Rattle.std.specs.Option.{unwrap_or}
use Rattle.std.proofs.Common.{Some, None}
use Rattle.std.proofs.Common.{◌≡◌, ◌≤◌, ◌<◌, refl, sym, subst, arith, lit<, lit≤}
use Rattle.std.proofs.Common.{ℕ, zero, suc, true, false}
use Rattle.lc_model.specs.Merge.{IsGap}
use Rattle.lc_model.specs.ExamplesOfMerges.{missing, first_byte}
use Rattle.std.proofs.Common.{eqb-true, ◌==◌, if◌then◌else◌, subst}
use Rattle.lc_model.proofs.TwoRecords.{below_two, gap_below}
use Rattle.lc_model.proofs.examples_of_merges.one_is_missing.Goals as goal

one_only : (segment seq : ℕ) → IsGap missing segment seq → segment ≡ 1
one_only segment seq gap =
    elim (1 == segment) as (λ b. (1 == segment) ≡ b → segment ≡ 1) [
      | true ↦ λ is. sym (eqb-true 1 segment is)
      | false ↦ λ is.
          let none : (n : ℕ) → unwrap_or (if 1 == segment then Some n else None) 0 ≤ 0 = λ n. rw is (lit≤ tt) in
          let low : seq < 0 = gap_below missing segment 0 seq (below_two segment 0 (first_byte 0 1 11) (first_byte 1 3 13) (none 1) (none 3)) gap in
          absurd (omega (arith, low))
    ] refl

two_only : (seq : ℕ) → IsGap missing 1 seq → seq ≡ 2
two_only zero gap = (let is : 0 < 0 = gap.0 in absurd (omega (arith, is)))
two_only (suc zero) gap = (let is : 1 ≡ 0 = gap.1 in absurd (omega (arith, is)))
two_only (suc (suc zero)) gap = refl
two_only (suc (suc (suc seq))) gap =
    let low : suc (suc (suc seq)) < 3 = gap_below missing 1 3 (suc (suc (suc seq))) (below_two 1 3 (first_byte 0 1 11) (first_byte 1 3 13) (lit≤ tt) (lit≤ tt)) gap in
    absurd (omega (arith, low))

pub returns-clause-is_gap : goal.returns-clause-is_gap
returns-clause-is_gap c = (lit< tt, refl, (first_byte 1 3 13, (1, lit< tt, refl), lit< tt))

pub returns-clause-no_other : goal.returns-clause-no_other
returns-clause-no_other c = λ segment seq gap. let first : segment ≡ 1 = one_only segment seq gap in (first, two_only seq (subst (λ s. IsGap missing s seq) first gap))

pub returns-clause-not_the_first : goal.returns-clause-not_the_first
returns-clause-not_the_first c = λ gap. (let is : 1 ≡ 0 = gap.1 in absurd (omega (arith, is)))

pub returns-clause-not_the_third : goal.returns-clause-not_the_third
returns-clause-not_the_third c = λ gap. (let is : 1 ≡ 0 = gap.1 in absurd (omega (arith, is)))

pub returns-clause-not_twice : goal.returns-clause-not_twice
returns-clause-not_twice c = λ both. (let is : 2 ≤ 1 = both.1 in absurd (omega (arith, is)))

pub returns-clause-refused : goal.returns-clause-refused
returns-clause-refused c = λ content numbers merged. merged.no_gap 1 2 (lit≤ tt) (lit≤ tt) (lit< tt, refl, (first_byte 1 3 13, (1, lit< tt, refl), lit< tt))
