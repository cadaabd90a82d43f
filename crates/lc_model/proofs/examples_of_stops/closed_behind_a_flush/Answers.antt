use Rattle.std.proofs.Common.{◌≡◌, ◌≤◌, refl, inl, inr, arith, lit≤}
use Rattle.lc_model.proofs.examples_of_stops.closed_behind_a_flush.Goals as goal

pub returns-clause-closed : goal.returns-clause-closed
returns-clause-closed c = refl

pub returns-clause-two_acked : goal.returns-clause-two_acked
returns-clause-two_acked c = inl refl

pub returns-clause-two_not_taken : goal.returns-clause-two_not_taken
returns-clause-two_not_taken c = λ may. elim may [ inl e ↦ (let is : 2 ≡ 1 = e in absurd (omega (arith, is))) | inr e ↦ (let is : 3 ≤ 2 = e.0 in absurd (omega (arith, is))) ]

pub returns-clause-two_not_closed : goal.returns-clause-two_not_closed
returns-clause-two_not_closed c = λ may. elim may [ inl e ↦ (let is : 3 ≡ 1 = e in absurd (omega (arith, is))) | inr e ↦ (let is : 3 ≤ 2 = e.0 in absurd (omega (arith, is))) ]

pub returns-clause-three_acked : goal.returns-clause-three_acked
returns-clause-three_acked c = inl refl

pub returns-clause-three_taken : goal.returns-clause-three_taken
returns-clause-three_taken c = inr (lit≤ tt, refl)

pub returns-clause-three_not_closed : goal.returns-clause-three_not_closed
returns-clause-three_not_closed c = λ may. elim may [ inl e ↦ (let is : 3 ≡ 1 = e in absurd (omega (arith, is))) | inr e ↦ (let is : 3 ≡ 2 = e.1 in absurd (omega (arith, is))) ]

pub returns-clause-three_not_none : goal.returns-clause-three_not_none
returns-clause-three_not_none c = λ may. elim may [ inl e ↦ (let is : 0 ≡ 1 = e in absurd (omega (arith, is))) | inr e ↦ (let is : 0 ≡ 2 = e.1 in absurd (omega (arith, is))) ]

pub returns-clause-four_taken : goal.returns-clause-four_taken
returns-clause-four_taken c = inr (lit≤ tt, refl)

pub returns-clause-four_not_closed : goal.returns-clause-four_not_closed
returns-clause-four_not_closed c = λ may. elim may [ inl e ↦ (let is : 3 ≡ 1 = e in absurd (omega (arith, is))) | inr e ↦ (let is : 3 ≡ 2 = e.1 in absurd (omega (arith, is))) ]
