use Rattle.std.proofs.Common.{◌≡◌, ◌+◌, ◌-◌, ◌∙◌, ℕ, Bool, List, [], ◌∷◌, ◌++◌, length, sym, subst, arith, inl, inr}
use Rattle.std.specs.Prelude.{Some}
use Rattle.std.proofs.lemmas.Bool.{cases_lt}
use Rattle.lc_record.specs.Part.{number_in}
use Rattle.lc_rest.specs.NumbersTest.{AreMarked}
use Rattle.lc_rest.proofs.Marking.{mark-one, mark-outside, mark-twice}
use Rattle.lc_rest.proofs.numbers_test.mark.Goals as goal

pub returns-then-number-first-clause-marked : goal.returns-then-number-first-clause-marked
returns-then-number-first-clause-marked c = λ e rs are.
    (let number = c.in-Some.number in
    let place : ℕ = number - c.args.first - 1 in
    let has : number_in c.args.segment c.args.whole.now.locks ≡ Some number = sym c.number_in.ensures ∙ c.in-Some.is in
    let is : number ≡ c.args.first + 1 + place = omega (arith, c.if-number-first.true) in
    let marked = c.mark_place.ensures.marked e in
    subst (λ (marks : List Bool). AreMarked c.args.segment c.args.first (rs ++ c.args.whole.now ∷ []) marks) (sym marked.2)
    (mark-one c.args.segment c.args.first rs c.args.marks.now c.args.whole.now number place has is marked.0 marked.1 are))

pub returns-then-number-first-clause-refused : goal.returns-then-number-first-clause-refused
returns-then-number-first-clause-refused c = λ e rs behind are numbered.
    (let number = c.in-Some.number in
    let place : ℕ = number - c.args.first - 1 in
    let has : number_in c.args.segment c.args.whole.now.locks ≡ Some number = sym c.number_in.ensures ∙ c.in-Some.is in
    let is : number ≡ c.args.first + 1 + place = omega (arith, c.if-number-first.true) in
    elim (cases_lt place (length c.args.marks.now)) [
      | inl within ↦ mark-twice c.args.segment c.args.first rs behind c.args.marks.now c.args.whole.now number place has is within (c.mark_place.ensures.refused e within) are numbered
      | inr past ↦ mark-outside c.args.segment c.args.first (c.args.first + length c.args.marks.now) rs behind c.args.whole.now number has (λ low high. absurd (omega (arith, is, past, high))) numbered
    ])

pub returns-else-number-first-clause-refused : goal.returns-else-number-first-clause-refused
returns-else-number-first-clause-refused c = λ e rs behind are numbered.
    mark-outside c.args.segment c.args.first (c.args.first + length c.args.marks.now) rs behind c.args.whole.now c.in-Some.number (sym c.number_in.ensures ∙ c.in-Some.is)
    (λ low high. absurd (omega (arith, c.if-number-first.false, low))) numbered
