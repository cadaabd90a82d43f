use Rattle.std.proofs.Common.{◌≡◌, ◌≤◌, ◌<◌, refl, sym, subst, arith, lit<, lit≤}
use Rattle.std.proofs.Common.{ℕ, zero, suc, true, false}
use Rattle.lc_model.specs.Merge.{IsTwice, how_many}
use Rattle.lc_model.specs.ExamplesOfMerges.{twice, first_byte}
use Rattle.std.proofs.Common.{eqb-true, ne_eqb, ◌==◌, subst}
use Rattle.lc_model.proofs.TwoRecords.{below_two, gap_below}
use Rattle.lc_model.proofs.examples_of_merges.one_is_there_twice.Goals as goal

one_only : (segment seq : ℕ) → IsTwice twice segment seq → (segment ≡ 1) × (seq ≡ 1)
one_only segment zero both = (let is : 0 < 0 = both.0 in absurd (omega (arith, is)))
one_only segment (suc seq) both =
    let n : ℕ = suc seq in
    elim (1 == segment) as (λ b. (1 == segment) ≡ b → (segment ≡ 1) × (n ≡ 1)) [
      | true ↦ λ is.
          let first : segment ≡ 1 = sym (eqb-true 1 segment is) in
          let here : 2 ≤ how_many 1 n twice = subst (λ s. 2 ≤ how_many s n twice) first both.1 in (
            first,
            elim (1 == n) as (λ b. (1 == n) ≡ b → n ≡ 1) [
              | true ↦ λ same. sym (eqb-true 1 n same)
              | false ↦ λ other. (let few : 2 ≤ 0 = rw other at here in absurd (omega (arith, few)))
            ] refl,
          )
      | false ↦ λ is.
          let never : (0 == n) ≡ false = ne_eqb 0 n (λ same. omega (arith, same)) in
          let few : 2 ≤ 0 = rw (is, never) at both.1 in
          absurd (omega (arith, few))
    ] refl

pub returns-clause-is_twice : goal.returns-clause-is_twice
returns-clause-is_twice c = (lit< tt, lit≤ tt)

pub returns-clause-no_other : goal.returns-clause-no_other
returns-clause-no_other c = λ segment seq both. one_only segment seq both

pub returns-clause-in_one_log : goal.returns-clause-in_one_log
returns-clause-in_one_log c = (lit< tt, lit≤ tt)

pub returns-clause-not_of_two_segments : goal.returns-clause-not_of_two_segments
returns-clause-not_of_two_segments c = λ both. (let is : 2 ≤ 1 = both.1 in absurd (omega (arith, is)))

pub returns-clause-no_gap : goal.returns-clause-no_gap
returns-clause-no_gap c = λ seq gap. let low : seq < 1 = gap_below twice 1 1 seq (below_two 1 1 (first_byte 0 1 11) (first_byte 1 1 12) (lit≤ tt) (lit≤ tt)) gap in let up : 0 < seq = gap.0 in absurd (omega (arith, low, up))

pub returns-clause-refused : goal.returns-clause-refused
returns-clause-refused c = λ content numbers merged. merged.not_twice 1 1 (lit< tt, lit≤ tt)
